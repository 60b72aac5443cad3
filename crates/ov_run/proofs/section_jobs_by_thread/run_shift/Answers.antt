-- One job more, and all of them.
use Rattle.std.proofs.Common.{◌≡◌, ◌∙◌, ◌++◌, ◌∷◌, [], List, ap, arith, length, length-append, subst, sym}
use Rattle.ov_run.specs.Code.Jobs.{Ran}
use Rattle.ov_run.proofs.Blocks.Jobs.{ShiftSoFar, nothing_left, shift_begun, shift_ended, shift_more}
use Rattle.ov_run.proofs.section_jobs_by_thread.run_shift.Goals as goal

pub loop-job-init : goal.loop-job-init
loop-job-init g c =
    let shift = c.args.shift in
    let rest = c.into_iter-job-iterator.ensures.into_iter_gives.0 in
    record {
      so_far = shift_begun g.N.HallName.params shift.jobs.items c.into_iter-job-iterator.result.rest.items
          shift.room.items rest shift.nothing_told;
      room = omega (arith, ap length rest, ap length shift.nothing_told, shift.has_room);
    }

pub loop-job-preserved : goal.loop-job-preserved
loop-job-preserved g c =
    let params = g.N.HallName.params in
    let jobs = c.args.shift.jobs.items in
    let i = c.loop-job.invariant in
    let done = c.loop-job.done.items in
    let left = c.next.new.self.rest.items in
    let ran = c.run_section.result in
    let taken : c.loop-job.job-iterator.rest.items ≡ c.in-Some.job ∷ left = c.in-Some.ensures.steps.0 in
    let pushed : c.push_reserved.new.self.items ≡ done ++ ran ∷ [] = c.push_reserved.ensures.items in
    let so_far = subst (λ l. ShiftSoFar params jobs l done) taken i.so_far in
    record {
      so_far = subst (λ (t : List Ran). ShiftSoFar params jobs left t) (sym pushed)
          (shift_more params jobs left c.in-Some.job ran done so_far c.run_section.ensures);
      room = omega (
        arith,
        ap length pushed,
        length-append done (ran ∷ []),
        c.push_reserved.ensures.capacity,
        ap length taken,
        i.room,
      );
    }

pub returns : goal.returns
returns g c =
    let rest = c.loop-job.job-iterator.rest in
    shift_ended g.N.HallName.params c.args.shift.jobs.items rest.items c.loop-job.done.items
    (nothing_left rest.items (sym rest.ok.0 ∙ c.in-None.ensures.steps.0)) c.loop-job.invariant.so_far
