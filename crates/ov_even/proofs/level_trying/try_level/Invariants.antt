-- The state of the level, as in `IsUnderWay`, behind the pieces for the first members; the settler does not change.
use Rattle.std.proofs.Common.{◌≡◌}
use Rattle.ov_even.proofs.AnalysisSteps.Trials.{IsUnderWay, seen_from}
use Rattle.ov_even.proofs.level_trying.try_level.Given as goal

abbrev pub invariant-loop-piece : goal.invariant-loop-piece
invariant-loop-piece g l = record {
  stays : l.settler ≡ l.fn.settler;
  way : IsUnderWay l.keeping l.fn.settler.graph l.fn.settler.members l.level l.pieces.items
      (seen_from l.done l.level l.yielded) l.piece-iterator;
}
