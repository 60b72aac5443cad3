-- no such bit is set in the words so far
use Rattle.std.proofs.Common.{◌+◌, ◌<◌, ◌≤◌, ◌*◌}
use Rattle.ov_graph.specs.Row.{HasBit}
use Rattle.ov_graph.specs.Code.Shifts.{HoldsNowhere}
use Rattle.ov_graph.proofs.neighbour_places.first_outside.Given as goal

abbrev pub invariant-loop-word : goal.invariant-loop-word
invariant-loop-word g l = record {
  start : l.start < 64;
  reached : l.from ≤ 64 * l.word + l.start;
  none : HoldsNowhere (λ q. HasBit l.row q × ¬ HasBit l.set q) l.from (64 * l.word + l.start);
}
