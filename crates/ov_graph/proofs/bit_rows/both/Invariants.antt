-- the words so far have the bits that both have
use Rattle.std.proofs.Common.{◌≡◌, ◌↔◌, ℕ, ◌<◌, ◌*◌, length}
use Rattle.ov_graph.specs.Row.{HasBit}
use Rattle.ov_graph.proofs.bit_rows.both.Given as goal

abbrev pub invariant-loop-word : goal.invariant-loop-word
invariant-loop-word g l =
    record {
      wide : length l.kept ≡ length l.a;
      bits : (q : ℕ)
          → HasBit l.kept q ↔ ((q < 64 * l.word) × (HasBit l.a q × HasBit l.b q));
    }
