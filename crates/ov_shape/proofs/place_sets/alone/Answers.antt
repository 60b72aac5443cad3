-- Before the one place is put in none is.
use Rattle.std.proofs.Common.{inl, inr}
use Rattle.ov_graph.proofs.BitRows.Bits.{no_bits}
use Rattle.ov_shape.proofs.place_sets.alone.Goals as goal

pub returns : goal.returns
returns g c q = (
  (λ h. elim ((c.put.ensures q).0 h) [ inl e ↦ e | inr k ↦ absurd (no_bits g.row.W q k) ]),
  (λ e. (c.put.ensures q).1 (inl e)),
)
