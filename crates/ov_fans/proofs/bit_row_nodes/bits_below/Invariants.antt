-- the words so far have their bits
use Rattle.std.proofs.Common.{◌≡◌, ◌↔◌, ℕ, ◌<◌, ◌*◌, length}
use Rattle.ov_graph.specs.Row.{HasBit}
use Rattle.ov_fans.proofs.bit_row_nodes.bits_below.Given as goal

abbrev pub invariant-loop-word : goal.invariant-loop-word
invariant-loop-word g l = record {
  wide : length l.kept ≡ length l.row;
  bits : (q : ℕ) → HasBit l.kept q ↔ ((q < 64 * l.word) × HasBit l.row q);
}
