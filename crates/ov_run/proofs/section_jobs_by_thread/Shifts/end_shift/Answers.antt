-- One shift more has the jobs that were left for it.
use Rattle.std.proofs.Common.{◌∙◌, ◌++◌, ap, flat_map}
use Rattle.ov_run.proofs.Blocks.Jobs.{shifts_more}
use Rattle.ov_run.proofs.section_jobs_by_thread.Shifts.end_shift.Goals as goal

pub returns-clause-made : goal.returns-clause-made
returns-clause-made g c =
    let made = c.args.self.now.made.items in
    ap (λ l. flat_map (λ shift. shift.jobs.items) l) c.in_ok-push.ensures.items
    ∙ shifts_more (λ shift. shift.jobs.items) made c.in_ok-new.field-0
    ∙ ap (λ l. flat_map (λ shift. shift.jobs.items) made ++ l)
    (c.in_ok-new.ensures ∙ ap (λ jobs. jobs.items) c.replace-jobs.ensures.value)
