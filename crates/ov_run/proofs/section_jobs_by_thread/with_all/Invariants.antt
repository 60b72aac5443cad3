-- the results so far, and those that are left; there is room for all
use Rattle.std.proofs.Common.{◌≡◌, ◌≤◌, ◌+◌, ◌++◌, length, vec_capacity}
use Rattle.ov_run.proofs.section_jobs_by_thread.with_all.Given as goal

abbrev pub invariant-loop-ran : goal.invariant-loop-ran
invariant-loop-ran g l = record {
  whole : l.all.items ++ l.ran-iterator.rest.items ≡ l.fn.all.items ++ l.fn.own.items;
  room : length l.all.items + length l.ran-iterator.rest.items ≤ vec_capacity l.all;
  capacity : vec_capacity l.all ≡ vec_capacity l.fn.all;
}
