-- Bits of words and rows that move by one place.
use Rattle.std.proofs.Common.{◌≡◌, ◌∙◌, ◌↔◌, ◌⊎◌, ℕ, ◌+◌, ◌-◌, ◌*◌, ◌/◌, ◌%◌, ◌^◌, ◌<◌, ◌≤◌, List, slice_index, bit_and}
use Rattle.std.proofs.Common.{bit_or, inl, inr, sym, ap, arith}
use Rattle.std.proofs.lemmas.Bool.{cases_eq, cases_lt}
use Rattle.std.proofs.lemmas.Nat.{mod_below, div-add-mod', pow_pos, shr_split, shr_below, and_mask, one_shl}
use Rattle.std.proofs.lemmas.Nat.Bits.{bit_at_or, bit_at-lt, bit_at-zero, bit_at_above, bit_at_cat_low, bit_at_cat_high}
use Rattle.std.specs.Int.{bit_at}
use Rattle.ov_graph.specs.Row.{HasBit}
use Rattle.ov_graph.specs.Code.Shifts.{HasOpened, HasClosed}
use Rattle.ov_graph.proofs.BitRows.Bits.{bit_in, bit_of, bit_shifted}

-- a bit of one word or of another
pub or_one : (a b i : ℕ) → (bit_at (bit_or a b) i ≡ 1) ↔ ((bit_at a i ≡ 1) ⊎ (bit_at b i ≡ 1))
or_one a b i =
    let o = bit_at_or a b i in
    let l = bit_at-lt a i in
    let m = bit_at-lt b i in (
      (λ h. elim (cases_eq (bit_at a i) 1) [ inl e ↦ inl e | inr n ↦ inr (omega (arith, o, l, m, n, h)) ]),
      (λ h. elim h [ inl e ↦ omega (arith, o, l, m, e) | inr e ↦ omega (arith, o, l, m, e) ]),
    )

-- the bits of the lower part of a word
low_bit : (n t i : ℕ) → i < t → bit_at (n % 2 ^ t) i ≡ bit_at n i
low_bit n t i l = sym (bit_at_cat_low (n / 2 ^ t) t (n % 2 ^ t) i l) ∙ ap (λ (m : ℕ). bit_at m i) (shr_split n t)

no_low_bit : (n t i : ℕ) → t ≤ i → bit_at (n % 2 ^ t) i ≡ 0
no_low_bit n t i l = bit_at_above (n % 2 ^ t) t i (mod_below n (2 ^ t) (pow_pos t)) l

-- the bits of a word that is moved up
raised_bit : (a k i : ℕ) → k ≤ i → bit_at (a * 2 ^ k) i ≡ bit_at a (i - k)
raised_bit a k i l = ap (λ (n : ℕ). bit_at n i) (omega arith) ∙ bit_at_cat_high a k 0 i (pow_pos k) l

no_raised_bit : (a k i : ℕ) → i < k → bit_at (a * 2 ^ k) i ≡ 0
no_raised_bit a k i l = ap (λ (n : ℕ). bit_at n i) (omega arith) ∙ bit_at_cat_low a k 0 i l ∙ bit_at-zero i

pub below_bit : (word t i : ℕ) → t < 64 → (bit_at (bit_and word (1 * 2 ^ t % 2 ^ 64 - 1)) i ≡ 1)
    ↔ ((i < t) × (bit_at word i ≡ 1))
below_bit word t i l =
    let e : bit_and word (1 * 2 ^ t % 2 ^ 64 - 1) ≡ word % 2 ^ t = ap (λ (m : ℕ). bit_and word (m - 1)) (one_shl t 64 l)
    ∙ and_mask word t in
    let f : bit_at (bit_and word (1 * 2 ^ t % 2 ^ 64 - 1)) i ≡ bit_at (word % 2 ^ t) i = ap (λ (m : ℕ). bit_at m i) e in
    elim (cases_lt i t) [
      | inl m ↦ let s = f ∙ low_bit word t i m in ((λ h. (m, sym s ∙ h)), (λ h. s ∙ h.1))
      | inr ge ↦ let s = f ∙ no_low_bit word t i ge in
          ((λ h. absurd (omega (arith, s, h))), (λ h. absurd (let m = h.0 in omega (arith, m, ge))))
    ]

pub above_bit : (word t i : ℕ) → word < 2 ^ 64
    → (bit_at (word / 2 ^ t * 2 ^ t % 2 ^ 64) i ≡ 1) ↔ ((t ≤ i) × (bit_at word i ≡ 1))
above_bit word t i fits =
    let e : word / 2 ^ t * 2 ^ t % 2 ^ 64 ≡ word / 2 ^ t * 2 ^ t = omega (arith, shr_split word t, fits) in
    let f : bit_at (word / 2 ^ t * 2 ^ t % 2 ^ 64) i ≡ bit_at (word / 2 ^ t * 2 ^ t) i = ap (λ (m : ℕ). bit_at m i) e in
    elim (cases_lt i t) [
      | inl l ↦ let s = f ∙ no_raised_bit (word / 2 ^ t) t i l in
          ((λ h. absurd (omega (arith, s, h))), (λ h. absurd (let m = h.0 in omega (arith, m, l))))
      | inr ge ↦
          let there : t + (i - t) ≡ i = omega (arith, ge) in
          let s = f ∙ raised_bit (word / 2 ^ t) t i ge ∙ bit_shifted word t (i - t)
          ∙ ap (λ (k : ℕ). bit_at word k) there in ((λ h. (ge, sym s ∙ h)), (λ h. s ∙ h.1))
    ]

-- a word one place up
pub up_first : (word before : ℕ) → (bit_at (bit_or (word * 2 ^ 1 % 2 ^ 64) (before / 2 ^ 63)) 0 ≡ 1)
    ↔ (bit_at before 63 ≡ 1)
up_first word before =
    let none = low_bit (word * 2 ^ 1) 64 0 (omega arith) ∙ no_raised_bit word 1 0 (omega arith) in
    let one = bit_shifted before 63 0 in
    let o = or_one (word * 2 ^ 1 % 2 ^ 64) (before / 2 ^ 63) 0 in (
      (λ h. elim (o.0 h) [ inl e ↦ absurd (omega (arith, e, none)) | inr e ↦ sym one ∙ e ]),
      (λ h. o.1 (inr (one ∙ h))),
    )

pub up_others : (word before i : ℕ) → before < 2 ^ 64 → i < 63
    → (bit_at (bit_or (word * 2 ^ 1 % 2 ^ 64) (before / 2 ^ 63)) (i + 1) ≡ 1) ↔ (bit_at word i ≡ 1)
up_others word before i fits l =
    let e : i + 1 - 1 ≡ i = omega arith in
    let one = low_bit (word * 2 ^ 1) 64 (i + 1) (omega (arith, l)) ∙ raised_bit word 1 (i + 1) (omega arith)
    ∙ ap (λ (k : ℕ). bit_at word k) e in
    let none = bit_at_above (before / 2 ^ 63) 1 (i + 1) (shr_below before 1 63 fits) (omega arith) in
    let o = or_one (word * 2 ^ 1 % 2 ^ 64) (before / 2 ^ 63) (i + 1) in (
      (λ h. elim (o.0 h) [ inl e ↦ sym one ∙ e | inr e ↦ absurd (omega (arith, e, none)) ]),
      (λ h. o.1 (inl (one ∙ h))),
    )

-- a word one place down
pub down_last : (word after : ℕ) → word < 2 ^ 64
    → (bit_at (bit_or (word / 2 ^ 1) (after * 2 ^ 63 % 2 ^ 64)) 63 ≡ 1) ↔ (bit_at after 0 ≡ 1)
down_last word after fits =
    let none = bit_shifted word 1 63 ∙ bit_at_above word 64 64 fits (omega arith) in
    let one = low_bit (after * 2 ^ 63) 64 63 (omega arith) ∙ raised_bit after 63 63 (omega arith) in
    let o = or_one (word / 2 ^ 1) (after * 2 ^ 63 % 2 ^ 64) 63 in (
      (λ h. elim (o.0 h) [ inl e ↦ absurd (omega (arith, e, none)) | inr e ↦ sym one ∙ e ]),
      (λ h. o.1 (inr (one ∙ h))),
    )

pub down_others : (word after i : ℕ) → i < 63
    → (bit_at (bit_or (word / 2 ^ 1) (after * 2 ^ 63 % 2 ^ 64)) i ≡ 1) ↔ (bit_at word (i + 1) ≡ 1)
down_others word after i l =
    let e : 1 + i ≡ i + 1 = omega arith in
    let one = bit_shifted word 1 i ∙ ap (λ (k : ℕ). bit_at word k) e in
    let none = low_bit (after * 2 ^ 63) 64 i (omega (arith, l)) ∙ no_raised_bit after 63 i l in
    let o = or_one (word / 2 ^ 1) (after * 2 ^ 63 % 2 ^ 64) i in (
      (λ h. elim (o.0 h) [ inl e ↦ sym one ∙ e | inr e ↦ absurd (omega (arith, e, none)) ]),
      (λ h. o.1 (inl (one ∙ h))),
    )

-- a bit by its word and its place there
here : (row : List ℕ) (word t q : ℕ) → t < 64 → q ≡ 64 * word + t → (bit_at (slice_index row word) t ≡ 1) ↔ HasBit row q
here row word t q l e = ((λ h. bit_in row word t q l e h), (λ h. bit_of row word t q l e h))

-- the words before the word of place p stay
pub word_before : (row : List ℕ) (p word q : ℕ) (Later : Type 0) → word < p / 64 → q / 64 ≡ word → (Later → p ≤ q)
    → (bit_at (slice_index row word) (q % 64) ≡ 1) ↔ (((q < p) × HasBit row q) ⊎ Later)
word_before row p word q Later l e late =
    let d = div-add-mod' q 64 in
    let m = mod_below q 64 (omega arith) in
    let b = here row word (q % 64) q m (omega (arith, d, e)) in
    let s = div-add-mod' p 64 in
    let less : q < p = omega (arith, d, m, e, s, l) in (
      (λ h. inl (less, b.0 h)),
      (λ h. elim h [ inl k ↦ b.1 k.1 | inr k ↦ absurd (let o = late k in omega (arith, o, less)) ]),
    )

-- the word of place p
pub opened_there : (row : List ℕ) (p word n q : ℕ) → word ≡ p / 64 → q / 64 ≡ word
    → ((i : ℕ) → i < 64
    → (bit_at n i ≡ 1)
    ↔ (((i < p % 64) × (bit_at (slice_index row word) i ≡ 1))
    ⊎ ((p % 64 < i) × (bit_at (slice_index row word) (i - 1) ≡ 1))))
    → (bit_at n (q % 64) ≡ 1) ↔ HasOpened row p q
opened_there row p word n q at e parted =
    let d = div-add-mod' q 64 in
    let s = div-add-mod' p 64 in
    let m = mod_below q 64 (omega arith) in
    let c = parted (q % 64) m in
    let b = here row word (q % 64) q m (omega (arith, d, e)) in (
      (λ h. elim (c.0 h) [
        | inl k ↦ let l = k.0 in inl (omega (arith, d, s, at, e, l), b.0 k.1)
        | inr k ↦ let l = k.0 in
            inr (
              omega (arith, d, s, at, e, l),
              (here row word (q % 64 - 1) (q - 1) (omega (arith, m)) (omega (arith, d, e, l))).0 k.1,
            )
      ]),
      (λ h. elim h [
        | inl k ↦ let l = k.0 in c.1 (inl (omega (arith, d, s, at, e, l), b.1 k.1))
        | inr k ↦ let l = k.0 in let o : p % 64 < q % 64 = omega (arith, d, s, at, e, l) in
            c.1 (inr (o, (here row word (q % 64 - 1) (q - 1) (omega (arith, m)) (omega (arith, d, e, o))).1 k.1))
      ]),
    )

-- the words after it
pub opened_after : (row : List ℕ) (p word n q : ℕ) → p / 64 < word → q / 64 ≡ word
    → (bit_at n 0 ≡ 1) ↔ (bit_at (slice_index row (word - 1)) 63 ≡ 1)
    → ((i : ℕ) → i < 63 → (bit_at n (i + 1) ≡ 1) ↔ (bit_at (slice_index row word) i ≡ 1))
    → (bit_at n (q % 64) ≡ 1) ↔ HasOpened row p q
opened_after row p word n q at e first others =
    let d = div-add-mod' q 64 in
    let s = div-add-mod' p 64 in
    let m = mod_below q 64 (omega arith) in
    let r = mod_below p 64 (omega arith) in
    let more : p < q = omega (arith, d, s, r, at, e) in
    let moved : (bit_at n (q % 64) ≡ 1) ↔ HasBit row (q - 1) = elim (cases_eq (q % 64) 0) [
      | inl z ↦
          let b = here row (word - 1) 63 (q - 1) (omega arith) (omega (arith, d, e, z, at)) in
          let f : bit_at n (q % 64) ≡ bit_at n 0 = ap (λ (i : ℕ). bit_at n i) z in
          ((λ h. b.0 (first.0 (sym f ∙ h))), (λ h. f ∙ first.1 (b.1 h)))
      | inr nz ↦
          let b = here row word (q % 64 - 1) (q - 1) (omega (arith, m)) (omega (arith, d, e, nz)) in
          let o = others (q % 64 - 1) (omega (arith, m, nz)) in
          let same : q % 64 - 1 + 1 ≡ q % 64 = omega (arith, nz) in
          let f : bit_at n (q % 64 - 1 + 1) ≡ bit_at n (q % 64) = ap (λ (i : ℕ). bit_at n i) same in
          ((λ h. b.0 (o.0 (f ∙ h))), (λ h. sym f ∙ o.1 (b.1 h)))
    ] in (
      (λ h. inr (more, moved.0 h)),
      (λ h. elim h [ inl k ↦ absurd (let l = k.0 in omega (arith, l, more)) | inr k ↦ moved.1 k.1 ]),
    )

-- bit i of a word moved one place down is bit i + 1 of the word
moved_down : (row : List ℕ) (word n q : ℕ) → q / 64 ≡ word
    → (bit_at n 63 ≡ 1) ↔ (bit_at (slice_index row (word + 1)) 0 ≡ 1)
    → ((i : ℕ) → i < 63 → (bit_at n i ≡ 1) ↔ (bit_at (slice_index row word) (i + 1) ≡ 1))
    → (bit_at n (q % 64) ≡ 1) ↔ HasBit row (q + 1)
moved_down row word n q e last others =
    let d = div-add-mod' q 64 in
    let m = mod_below q 64 (omega arith) in
    elim (cases_eq (q % 64) 63) [
      | inl z ↦
          let b = here row (word + 1) 0 (q + 1) (omega arith) (omega (arith, d, e, z)) in
          let f : bit_at n (q % 64) ≡ bit_at n 63 = ap (λ (i : ℕ). bit_at n i) z in
          ((λ h. b.0 (last.0 (sym f ∙ h))), (λ h. f ∙ last.1 (b.1 h)))
      | inr nz ↦
          let b = here row word (q % 64 + 1) (q + 1) (omega (arith, m, nz)) (omega (arith, d, e)) in
          let o = others (q % 64) (omega (arith, m, nz)) in
          ((λ h. b.0 (o.0 h)), (λ h. o.1 (b.1 h)))
    ]

pub closed_there : (row : List ℕ) (p word n moved q : ℕ) → word ≡ p / 64 → q / 64 ≡ word
    → (bit_at moved 63 ≡ 1) ↔ (bit_at (slice_index row (word + 1)) 0 ≡ 1)
    → ((i : ℕ) → i < 63 → (bit_at moved i ≡ 1) ↔ (bit_at (slice_index row word) (i + 1) ≡ 1))
    → ((i : ℕ) → i < 64
    → (bit_at n i ≡ 1)
    ↔ (((i < p % 64) × (bit_at (slice_index row word) i ≡ 1)) ⊎ ((p % 64 ≤ i) × (bit_at moved i ≡ 1))))
    → (bit_at n (q % 64) ≡ 1) ↔ HasClosed row p q
closed_there row p word n moved q at e last others joined =
    let d = div-add-mod' q 64 in
    let s = div-add-mod' p 64 in
    let m = mod_below q 64 (omega arith) in
    let c = joined (q % 64) m in
    let b = here row word (q % 64) q m (omega (arith, d, e)) in
    let g = moved_down row word moved q e last others in (
      (λ h. elim (c.0 h) [
        | inl k ↦ let l = k.0 in inl (omega (arith, d, s, at, e, l), b.0 k.1)
        | inr k ↦ let l = k.0 in inr (omega (arith, d, s, at, e, l), g.0 k.1)
      ]),
      (λ h. elim h [
        | inl k ↦ let l = k.0 in c.1 (inl (omega (arith, d, s, at, e, l), b.1 k.1))
        | inr k ↦ let l = k.0 in c.1 (inr (omega (arith, d, s, at, e, l), g.1 k.1))
      ]),
    )

pub closed_after : (row : List ℕ) (p word n q : ℕ) → p / 64 < word → q / 64 ≡ word
    → (bit_at n 63 ≡ 1) ↔ (bit_at (slice_index row (word + 1)) 0 ≡ 1)
    → ((i : ℕ) → i < 63 → (bit_at n i ≡ 1) ↔ (bit_at (slice_index row word) (i + 1) ≡ 1))
    → (bit_at n (q % 64) ≡ 1) ↔ HasClosed row p q
closed_after row p word n q at e last others =
    let d = div-add-mod' q 64 in
    let s = div-add-mod' p 64 in
    let r = mod_below p 64 (omega arith) in
    let more : p ≤ q = omega (arith, d, s, r, at, e) in
    let g = moved_down row word n q e last others in (
      (λ h. inr (more, g.0 h)),
      (λ h. elim h [ inl k ↦ absurd (let l = k.0 in omega (arith, l, more)) | inr k ↦ g.1 k.1 ]),
    )
