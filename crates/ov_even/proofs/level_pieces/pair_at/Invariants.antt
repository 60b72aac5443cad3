use Rattle.std.proofs.Common.{◌≡◌, ◌≤◌, ◌+◌}
use Rattle.ov_even.specs.Code.Levels.{pairs_among}
use Rattle.ov_even.proofs.level_pieces.pair_at.Given as goal

abbrev pub invariant-loop-before : goal.invariant-loop-before
invariant-loop-before l = record {
  some : 1 ≤ l.before;
  place : pairs_among l.before + l.left ≡ l.fn.place;
}

abbrev pub decreases-loop-before : goal.decreases-loop-before
decreases-loop-before l = l.left
