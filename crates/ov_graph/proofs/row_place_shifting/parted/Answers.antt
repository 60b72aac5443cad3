-- Bit 0 of what is moved up is not set, and its bit i is bit i - 1 of what was there.
use Rattle.std.proofs.Common.{◌≡◌, ◌∙◌, ◌↔◌, ◌+◌, ◌-◌, ◌<◌, ℕ, inl, inr, sym, ap, arith}
use Rattle.std.proofs.lemmas.Bool.{cases_eq}
use Rattle.std.proofs.lemmas.Nat.Bits.{bit_at-zero}
use Rattle.std.specs.Int.{bit_at}
use Rattle.ov_graph.proofs.BitRows.Shifts.{or_one}
use Rattle.ov_graph.proofs.row_place_shifting.parted.Goals as goal

pub returns : goal.returns
returns c i l =
    let n = c.up.result in
    let t = c.args.t in
    let o = or_one c.low_bits.result n i in
    let low = c.low_bits.ensures i in
    let high : (bit_at n i ≡ 1) ↔ ((t < i) × (bit_at c.args.word (i - 1) ≡ 1)) = elim (cases_eq i 0) [
      | inl z ↦
          let f : bit_at n i ≡ bit_at n 0 = ap (λ (k : ℕ). bit_at n k) z in
          let e = bit_at-zero 63 in (
            (λ h. absurd (let k = c.up.ensures.first.0 (sym f ∙ h) in omega (arith, e, k))),
            (λ h. absurd (let m = h.0 in omega (arith, m, z))),
          )
      | inr nz ↦
          let same : i - 1 + 1 ≡ i = omega (arith, nz) in
          let f : bit_at n (i - 1 + 1) ≡ bit_at n i = ap (λ (k : ℕ). bit_at n k) same in
          let up = c.up.ensures.others (i - 1) (omega (arith, l, nz)) in
          let a = c.above.ensures (i - 1) in (
            (λ h. let k = a.0 (up.0 (f ∙ h)) in let m = k.0 in (omega (arith, m, nz), k.1)),
            (λ h. let m = h.0 in sym f ∙ up.1 (a.1 (omega (arith, m, nz), h.1))),
          )
    ] in (
      (λ h. elim (o.0 h) [ inl k ↦ inl (low.0 k) | inr k ↦ inr (high.0 k) ]),
      (λ h. o.1 (elim h [ inl k ↦ inl (low.1 k) | inr k ↦ inr (high.1 k) ])),
    )
