-- Each shift gave the results at its place.
use Rattle.std.proofs.Common.{arith, slice_index_or, subst, sym}
use Rattle.ov_run.specs.Code.Jobs.{HaveRun}
use Rattle.ov_run.proofs.Blocks.Jobs.{each_shift_ran}
use Rattle.ov_run.proofs.section_jobs_by_thread.run_shifts.Goals as goal

pub returns : goal.returns
returns g c =
    let params = g.N.HallName.params in
    let shifts = c.args.shifts.items in
    let done = c.in_ok-map_vec.field-0.items in
    each_shift_ran params (λ s. s.jobs.items) (λ own. own.items) shifts done
    (omega (arith, c.in_ok-map_vec.ensures.len, c.in_ok-map_vec.field-0.ok.0, c.args.shifts.ok.0))
    (λ k s own low. let e = (c.in_ok-map_vec.ensures.each k own low).1 in
    subst (λ x. HaveRun params x.jobs.items (slice_index_or done k own).items) (sym (e.job_is s)) e.call.met)
