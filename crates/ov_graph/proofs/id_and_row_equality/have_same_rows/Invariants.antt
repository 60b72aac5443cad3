-- the rows so far have the same bits
use Rattle.std.proofs.Common.{◌↔◌, ℕ, ◌<◌, ◌*◌}
use Rattle.ov_graph.specs.Row.{HasBit}
use Rattle.ov_graph.specs.Code.Kept.{row_at}
use Rattle.ov_graph.proofs.id_and_row_equality.have_same_rows.Given as goal

abbrev pub invariant-loop-place : goal.invariant-loop-place
invariant-loop-place l = (p q : ℕ) → p < l.place → q < 64 * l.words
    → HasBit (row_at l.left p) q ↔ HasBit (row_at l.right p) q
