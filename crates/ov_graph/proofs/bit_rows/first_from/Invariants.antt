-- no bit is set in the words so far
use Rattle.std.proofs.Common.{◌+◌, ◌<◌, ◌≤◌, ◌*◌}
use Rattle.ov_graph.specs.Row.{HasBit}
use Rattle.ov_graph.specs.Code.Shifts.{HoldsNowhere}
use Rattle.ov_graph.proofs.bit_rows.first_from.Given as goal

abbrev pub invariant-loop-word : goal.invariant-loop-word
invariant-loop-word g l = record {
  start : l.start < 64;
  reached : l.from ≤ 64 * l.word + l.start;
  none : HoldsNowhere (HasBit l.row) l.from (64 * l.word + l.start);
}
