-- The piece is not before the column.
use Rattle.std.proofs.Common.{◌≡◌, ◌-◌, length}
use Rattle.ov_even.specs.Code.Levels.{pieces_of_level}
use Rattle.ov_crew.specs.Code.Ascending.{IsReached}
use Rattle.ov_crew.proofs.ascending_piece_lookup.level_from.Given as goal

abbrev pub invariant-loop-size : goal.invariant-loop-size
invariant-loop-size l = record {
  reached : IsReached l.members l.number l.at;
  size : l.size ≡ length (pieces_of_level l.members l.at.level);
}

abbrev pub decreases-loop-size : goal.decreases-loop-size
decreases-loop-size l = l.nodes - l.at.level
