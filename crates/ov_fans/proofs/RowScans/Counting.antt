-- The bits that two rows share, counted word by word.
use Rattle.std.proofs.Common.{◌≡◌, ◌∙◌, ◌↔◌, ℕ, zero, suc, ◌+◌, ◌-◌, ◌*◌, ◌/◌, ◌%◌, ◌^◌, ◌<◌, ◌≤◌, inl, inr, List, []}
use Rattle.std.proofs.Common.{◌∷◌, ◌++◌, slice_index, bit_and, count_ones, pow-suc, refl, sym, ap, arith, length-append}
use Rattle.std.proofs.lemmas.Bool.{cases_eq, cases_lt}
use Rattle.std.proofs.lemmas.Nat.{ones-le, div-add-mod', div-mul-add}
use Rattle.std.proofs.lemmas.Nat.Bits.{bit_at_lowest, bit_at-suc}
use Rattle.std.specs.Int.{bit_at}
use Rattle.ov_ids.specs.Members.{Has, Ascends}
use Rattle.ov_ids.proofs.Members.{has_append_left, has_append_right, has_append_cases, all_from_members, all_member}
use Rattle.ov_graph.specs.Row.{HasBit}
use Rattle.ov_graph.proofs.BitRows.Bits.{both_bits}
use Rattle.ov_fans.specs.Counts.{IsNumberOf}
use lib.Count.{ones_step}

-- p is the place of a set bit of n, a number of k bits whose lowest is at place `from`
abbrev IsBitFrom : ℕ → ℕ → ℕ → ℕ → Type 0
IsBitFrom k from n p = (from ≤ p) × (p < from + k) × (bit_at n (p - from) ≡ 1)

-- the bit at a later place is one of the rest
later_bit : (n from p : ℕ) → from < p → bit_at n (p - from) ≡ bit_at (n / 2) (p - suc from)
later_bit n from p l =
    let e : p - from ≡ suc (p - suc from) = omega (arith, l) in
    ap (bit_at n) e ∙ bit_at-suc n (p - suc from)

lowest_bit : (n from p : ℕ) → from ≡ p → bit_at n (p - from) ≡ n % 2
lowest_bit n from p e = let z : p - from ≡ 0 = omega (arith, e) in ap (bit_at n) z ∙ bit_at_lowest n

word_count : (k from n : ℕ) → n < 2 ^ k → IsNumberOf (IsBitFrom k from n) (count_ones n)
word_count zero from n fits = record {
  all = [];
  ascend = tt;
  each = λ p. ((λ h. absurd h), (λ h. let l = h.0 in let m = h.1 in absurd (omega (arith, l, m))));
  counted = let l = ones-le 0 n fits in omega (arith, l);
}
word_count (suc k) from n fits =
    let r = word_count k (suc from) (n / 2) (omega (arith, fits, pow-suc 2 k)) in
    let step = ones_step n in
    let count = r.counted in
    let later : (p : ℕ) → Has r.all p → (from < p) × (p < from + suc k) × (bit_at n (p - from) ≡ 1) = λ p h.
    let b = (r.each p).0 h in
    let low = b.0 in
    let high = b.1 in
    (omega (arith, low), omega (arith, high), later_bit n from p (omega (arith, low)) ∙ b.2) in
    let found : (p : ℕ) → from < p → p < from + suc k → bit_at n (p - from) ≡ 1 → Has r.all p = λ p low high e.
    (r.each p).1 (omega (arith, low), omega (arith, high), sym (later_bit n from p low) ∙ e) in
    elim (cases_eq (n % 2) 1) [
      | inl odd ↦ record {
        all = from ∷ r.all;
        ascend = (all_from_members (λ p. from < p) r.all (λ p h. (later p h).0), r.ascend);
        each = λ p. (
          (λ h. elim h [
            | inl e ↦ (omega (arith, e), omega (arith, e), lowest_bit n from p e ∙ odd)
            | inr m ↦ let b = later p m in let low = b.0 in (omega (arith, low), b.1, b.2)
          ]),
          (λ h.
              let low = h.0 in
              elim (cases_eq from p) [ inl e ↦ inl e | inr ne ↦ inr (found p (omega (arith, low, ne)) h.1 h.2) ]),
        );
        counted = omega (arith, step, count, odd);
      }
      | inr even ↦ record {
        all = r.all;
        ascend = r.ascend;
        each = λ p. (
          (λ h. let b = later p h in let low = b.0 in (omega (arith, low), b.1, b.2)),
          (λ h.
              let low = h.0 in
              elim (cases_eq from p) [
                | inl e ↦ absurd (even (sym (lowest_bit n from p e) ∙ h.2))
                | inr ne ↦ found p (omega (arith, low, ne)) h.1 h.2
              ]),
        );
        counted = omega (arith, step, count, even);
      }
    ]

-- a list that ascends goes on with one whose items are all above
ascends_append : (xs ys : List ℕ) → Ascends xs → Ascends ys → ((x y : ℕ) → Has xs x → Has ys y → x < y)
    → Ascends (xs ++ ys)
ascends_append [] ys up more above = more
ascends_append (x ∷ xs) ys up more above = (
  all_from_members (λ z. x < z) (xs ++ ys) (λ z h. elim (has_append_cases xs ys z h) [
    | inl k ↦ all_member (λ y. x < y) xs z up.0 k
    | inr k ↦ above x z (inl refl) k
  ]),
  ascends_append xs ys up.1 more (λ u y h k. above u y (inr h) k),
)

-- bit p is one of the first `end` bits, and both rows have it
abbrev pub IsShared : List ℕ → List ℕ → ℕ → ℕ → Type 0
IsShared a b end p = (p < end) × HasBit a p × HasBit b p

-- no word is counted yet
pub shared_none : (a b : List ℕ) → IsNumberOf (IsShared a b (64 * 0)) 0
shared_none a b = record {
  all = [];
  ascend = tt;
  each = λ p. ((λ h. absurd h), (λ h. let l = h.0 in absurd (omega (arith, l))));
  counted = refl;
}

-- the bits of a word that both rows have
abbrev pub shared_word : List ℕ → List ℕ → ℕ → ℕ
shared_word a b word = bit_and (slice_index a word) (slice_index b word)

-- one more word is counted
pub shared_more : (a b : List ℕ) (word count : ℕ) → shared_word a b word < 2 ^ 64
    → IsNumberOf (IsShared a b (64 * word)) count
    → IsNumberOf (IsShared a b (64 * (word + 1))) (count + count_ones (shared_word a b word))
shared_more a b word count fits before =
    let n = shared_word a b word in
    let w = word_count 64 (64 * word) n fits in
    let u = before.counted in
    let v = w.counted in
    let place : (p : ℕ) → 64 * word ≤ p → p < 64 * (word + 1)
    → (bit_at n (p - 64 * word) ≡ 1) ↔ (HasBit a p × HasBit b p) =
    λ p low high.
    let d = div-mul-add word 64 (p - 64 * word) (omega (arith, low, high)) in
    let e : p / 64 ≡ word = omega (arith, d, low) in
    let m : p % 64 ≡ p - 64 * word = omega (arith, e, div-add-mod' p 64) in
    let both = both_bits a b word p e in
    ((λ h. both.0 (ap (bit_at n) m ∙ h)), (λ h. ap (bit_at n) (sym m) ∙ both.1 h)) in
    record {
      all = before.all ++ w.all;
      ascend = ascends_append before.all w.all before.ascend w.ascend (λ x y h k.
          let l = ((before.each x).0 h).0 in let m = ((w.each y).0 k).0 in omega (arith, l, m));
      each = λ p. (
        (λ h. elim (has_append_cases before.all w.all p h) [
          | inl k ↦ let r = (before.each p).0 k in let l = r.0 in (omega (arith, l), r.1, r.2)
          | inr k ↦
              let r = (w.each p).0 k in
              let low = r.0 in
              let high : p < 64 * (word + 1) = let h = r.1 in omega (arith, h) in
              let s = (place p low high).0 r.2 in
              (high, s.0, s.1)
        ]),
        (λ h. elim (cases_lt p (64 * word)) [
          | inl l ↦ has_append_left before.all w.all p ((before.each p).1 (l, h.1, h.2))
          | inr low ↦
              let high = h.0 in
              has_append_right before.all w.all p ((w.each p).1
              (low, omega (arith, high), (place p low high).1 (h.1, h.2)))
        ]),
      );
      counted = length-append before.all w.all ∙ omega (arith, u, v);
    }
