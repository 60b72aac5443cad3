-- the results so far, and those that are left; there is room for all
use Rattle.std.proofs.Common.{◌≡◌, ◌≤◌, ◌+◌, ◌++◌, flat_map, length, vec_capacity}
use Rattle.ov_run.proofs.section_jobs_by_thread.in_one_list.Given as goal

abbrev pub invariant-loop-own : goal.invariant-loop-own
invariant-loop-own g l = record {
  whole : l.all.items ++ flat_map (λ own. own.items) l.own-iterator.rest.items
      ≡ flat_map (λ own. own.items) l.fn.done.items;
  room : length l.all.items + length (flat_map (λ own. own.items) l.own-iterator.rest.items) ≤ vec_capacity l.all;
}
