-- the jobs so far were done, and there is room for the results of the others
use Rattle.std.proofs.Common.{◌≤◌, ◌+◌, length, vec_capacity}
use Rattle.ov_run.proofs.Blocks.Jobs.{ShiftSoFar}
use Rattle.ov_run.proofs.section_jobs_by_thread.run_shift.Given as goal

abbrev pub invariant-loop-job : goal.invariant-loop-job
invariant-loop-job g l = record {
  so_far : ShiftSoFar g.N.HallName.params l.fn.shift.jobs.items l.job-iterator.rest.items l.done.items;
  room : length l.done.items + length l.job-iterator.rest.items ≤ vec_capacity l.done;
}
