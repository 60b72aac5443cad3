-- the words so far have the bits of the row
use Rattle.std.proofs.Common.{◌≡◌, ◌↔◌, ℕ, ◌<◌, ◌*◌, length}
use Rattle.ov_graph.specs.Row.{HasBit}
use Rattle.ov_graph.proofs.neighbour_places.widened.Given as goal

abbrev pub invariant-loop-word : goal.invariant-loop-word
invariant-loop-word g l = record {
  wide : length l.set ≡ g.row.W;
  bits : (q : ℕ) → HasBit l.set q ↔ ((q < 64 * l.word) × HasBit l.row q);
}
