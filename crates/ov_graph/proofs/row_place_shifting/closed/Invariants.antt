-- the words so far
use Rattle.std.proofs.Common.{◌≡◌, ◌↔◌, ℕ, ◌<◌, ◌*◌, length}
use Rattle.ov_graph.specs.Row.{HasBit}
use Rattle.ov_graph.specs.Code.Shifts.{HasClosed}
use Rattle.ov_graph.proofs.row_place_shifting.closed.Given as goal

abbrev pub invariant-loop-word : goal.invariant-loop-word
invariant-loop-word l = record {
  wide : length l.made ≡ length l.row;
  bits : (q : ℕ) → HasBit l.made q ↔ ((q < 64 * l.word) × HasClosed l.row l.p q);
}
