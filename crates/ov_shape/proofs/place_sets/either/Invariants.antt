-- the words so far have the bits of both rows
use Rattle.std.proofs.Common.{◌≡◌, ◌↔◌, ◌⊎◌, ℕ, ◌<◌, ◌*◌, length}
use Rattle.ov_graph.specs.Row.{HasBit}
use Rattle.ov_shape.proofs.place_sets.either.Given as goal

abbrev pub invariant-loop-word : goal.invariant-loop-word
invariant-loop-word g l = record {
  wide : length l.kept ≡ length l.a;
  bits : (q : ℕ) → HasBit l.kept q ↔ ((q < 64 * l.word) × (HasBit l.a q ⊎ HasBit l.b q));
}
