-- All jobs are in shifts.
use Rattle.std.proofs.Common.{◌∙◌, ◌++◌, ap, flat_map, sym}
use Rattle.std.proofs.lemmas.List.{append-nil}
use Rattle.ov_run.proofs.Blocks.Jobs.{nothing_left}
use Rattle.ov_run.proofs.section_jobs_by_thread.shifts_of.Goals as goal

pub returns : goal.returns
returns g c =
    let shifts = c.loop-job.shifts in
    let held = flat_map (λ shift. shift.jobs.items) shifts.made.items ++ shifts.next.items in
    let rest = c.loop-job.job-iterator.rest in
    let none = nothing_left rest.items (sym rest.ok.0 ∙ c.in-None.ensures.steps.0) in
    c.in_ok-end_shift.ensures.made
    ∙ sym (append-nil held)
    ∙ ap (λ l. held ++ l) (sym none)
    ∙ c.loop-job.invariant
