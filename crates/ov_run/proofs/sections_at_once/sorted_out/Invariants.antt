-- the passes and what is told so far, and those of the results that are left; there is room for all
use Rattle.std.proofs.Common.{◌≡◌, ◌≤◌, ◌+◌, ◌++◌, length, map, vec_capacity}
use Rattle.ov_run.proofs.sections_at_once.sorted_out.Given as goal

abbrev pub invariant-loop-pass : goal.invariant-loop-pass
invariant-loop-pass g l = record {
  passes : l.passes.items ++ map (λ x. x.0) l.pass-iterator.rest.items ≡ map (λ x. x.0) l.fn.ran.items;
  told : l.told.items ++ map (λ x. x.1) l.pass-iterator.rest.items ≡ map (λ x. x.1) l.fn.ran.items;
  room : length l.passes.items + length l.pass-iterator.rest.items ≤ vec_capacity l.passes;
  room_told : length l.told.items + length l.pass-iterator.rest.items ≤ vec_capacity l.told;
}
