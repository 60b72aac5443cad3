-- The bits of a row that are below a place.
use Rattle.std.proofs.Common.{◌≡◌, ◌∙◌, ◌↔◌, ℕ, ◌/◌, ◌%◌, ◌<◌, List, slice_index, sym, ap, arith}
use Rattle.std.proofs.lemmas.Nat.{div-add-mod'}
use Rattle.std.specs.Int.{bit_at}
use Rattle.ov_graph.specs.Row.{HasBit}
use Rattle.ov_graph.proofs.BitRows.Bits.{one_bit, bit_one}

-- a bit of a row is one of its word
pub word_bit : (row : List ℕ) (word q : ℕ) → q / 64 ≡ word
    → (bit_at (slice_index row word) (q % 64) ≡ 1) ↔ HasBit row q
word_bit row word q e =
    let same : bit_at (slice_index row word) (q % 64) ≡ bit_at (slice_index row (q / 64)) (q % 64) =
    ap (λ (w : ℕ). bit_at (slice_index row w) (q % 64)) (sym e) in
    ((λ h. one_bit row q (sym same ∙ h)), (λ h. same ∙ bit_one row q h))

-- the bits of the last word that are below the place p
pub last_bit : (row : List ℕ) (p low q : ℕ)
    → ((i : ℕ) → (bit_at low i ≡ 1) ↔ ((i < p % 64) × (bit_at (slice_index row (p / 64)) i ≡ 1))) → q / 64 ≡ p / 64
    → (bit_at low (q % 64) ≡ 1) ↔ ((q < p) × HasBit row q)
last_bit row p low q lower e =
    let d = div-add-mod' p 64 in
    let f = div-add-mod' q 64 in
    let w = word_bit row (p / 64) q e in
    let b = lower (q % 64) in (
      (λ h. let k = b.0 h in let m = k.0 in (omega (arith, d, f, e, m), w.0 k.1)),
      (λ h. let m = h.0 in b.1 (omega (arith, d, f, e, m), w.1 h.1)),
    )
