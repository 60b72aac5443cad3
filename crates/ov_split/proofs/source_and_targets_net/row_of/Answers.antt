-- The bit of the one place, or of none.
use Rattle.std.proofs.Common.{◌∙◌, inl, inr, Some, sym, ap}
use Rattle.ov_graph.proofs.BitRows.Bits.{no_bits}
use Rattle.ov_split.proofs.ByNames.Rows.{some_same}
use Rattle.ov_split.proofs.source_and_targets_net.row_of.Goals as goal

pub returns-in-Some : goal.returns-in-Some
returns-in-Some g c q = (
  (λ b. elim ((c.put.ensures q).0 b) [ inl e ↦ c.in-Some.is ∙ ap Some (sym e) | inr k ↦ absurd (no_bits g.row.W q k) ]),
  (λ e. (c.put.ensures q).1 (inl (some_same q c.in-Some.p (sym e ∙ c.in-Some.is)))),
)

pub returns-in_default : goal.returns-in_default
returns-in_default g c q = (
  (λ b. absurd (no_bits g.row.W q b)),
  (λ e. let n = c.in_default.is in absurd (cc (e, n))),
)
