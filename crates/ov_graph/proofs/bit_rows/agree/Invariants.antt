-- the words so far have the same bits
use Rattle.std.proofs.Common.{◌↔◌, ℕ, ◌<◌, ◌*◌}
use Rattle.ov_graph.specs.Row.{HasBit}
use Rattle.ov_graph.proofs.bit_rows.agree.Given as goal

abbrev pub invariant-loop-word : goal.invariant-loop-word
invariant-loop-word g l = (q : ℕ) → q < 64 * l.word → HasBit l.a q ↔ HasBit l.b q
