-- the piece is among those of the levels still left
use Rattle.std.proofs.Common.{◌≡◌, ◌<◌, ◌≤◌, ◌-◌, length, slice_get}
use Rattle.ov_even.specs.Code.Levels.{pieces_of_level, levels_behind, all_pieces}
use Rattle.ov_even.proofs.piece_numbers.group_piece_at.Given as goal

abbrev pub invariant-loop-size : goal.invariant-loop-size
invariant-loop-size l = record {
  low : 1 ≤ l.level;
  size : l.size ≡ length (pieces_of_level l.members l.level);
  below : l.left < length (levels_behind l.members (l.level - 1) (l.nodes - l.level));
  there : slice_get (levels_behind l.members (l.level - 1) (l.nodes - l.level)) l.left
      ≡ slice_get (all_pieces l.nodes l.members) l.fn.number;
}

abbrev pub decreases-loop-size : goal.decreases-loop-size
decreases-loop-size l = l.nodes - l.level
