-- the pieces of the lower levels so far
use Rattle.std.proofs.Common.{◌≡◌, ◌≤◌, ◌-◌, length}
use Rattle.ov_even.specs.Code.Levels.{levels_behind}
use Rattle.ov_even.proofs.piece_numbers.level_numbers.Given as goal

abbrev pub invariant-loop-lower : goal.invariant-loop-lower
invariant-loop-lower l = record {
  low : 1 ≤ l.lower;
  first : l.first ≡ length (levels_behind l.members 0 (l.lower - 1));
}
