-- The piece is not before the column, which is one of the same level.
use Rattle.std.proofs.Common.{◌≡◌, ◌-◌}
use Rattle.ov_crew.specs.Code.Ascending.{IsReached}
use Rattle.ov_crew.proofs.ascending_piece_lookup.column_from.Given as goal

abbrev pub invariant-loop-at : goal.invariant-loop-at
invariant-loop-at l = record {
  reached : IsReached l.members l.number l.at;
  level : l.at.level ≡ l.fn.from.level;
  first : l.at.first ≡ l.fn.from.first;
}

abbrev pub decreases-loop-at : goal.decreases-loop-at
decreases-loop-at l = l.at.level - l.at.before
