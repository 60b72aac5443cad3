use Rattle.std.proofs.Common.{inl, inr}
use Rattle.ov_graph.proofs.BitRows.Shifts.{or_one}
use Rattle.ov_graph.proofs.row_place_shifting.joined.Goals as goal

pub returns : goal.returns
returns c i l =
    let o = or_one c.low_bits.result c.above.result i in
    let low = c.low_bits.ensures i in
    let high = c.above.ensures i in (
      (λ h. elim (o.0 h) [ inl k ↦ inl (low.0 k) | inr k ↦ inr (high.0 k) ]),
      (λ h. o.1 (elim h [ inl k ↦ inl (low.1 k) | inr k ↦ inr (high.1 k) ])),
    )
