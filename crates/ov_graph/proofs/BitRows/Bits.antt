-- Bits of words and of rows.
use Rattle.std.proofs.Common.{◌≡◌, ◌≢◌, ◌∙◌, ◌↔◌, ◌⊎◌, ℕ, ◌+◌, ◌-◌, ◌*◌, ◌/◌, ◌%◌, ◌^◌, ◌<◌, ◌≤◌, List, [], length}
use Rattle.std.proofs.Common.{replicate, slice_index, set, bit_and, inl, inr, refl, sym, ap, subst, arith, w64}
use Rattle.std.proofs.Common.{eqb-true, eq-eqb}
use Rattle.std.proofs.lemmas.Bool.{cases_eq, cases_lt}
use Rattle.std.proofs.lemmas.List.{get_or-set_same, get_or-set_other, get_or-replicate, length-replicate}
use Rattle.std.proofs.lemmas.Nat.{mod_below, div-add-mod', div-mul-add, mod-mul-add, pow-add}
use Rattle.std.proofs.lemmas.Nat.Bits.{bit_at_and, bit_at_not, bit_at-trailing_zeros, bit_at-lt, bit_at-zero}
use Rattle.std.proofs.lemmas.Nat.Bits.{bit_at_above, same_from_bits_below}
use Rattle.std.proofs.Math.ListN.{get_or-eq_default}
use Rattle.std.proofs.Math.Nat.{div-div-eq-div-mul, div-le_self}
use Rattle.std.specs.Int.{bit_at, trailing_zeros, bit_not}
use Rattle.ov_graph.specs.declared.bit_rows.TheConstants.{EMPTY, WORDS}
use Rattle.ov_graph.specs.Links.{most_nodes}
use Rattle.ov_graph.specs.Row.{has_bit, HasBit, AreWordsFor}
use Rattle.ov_graph.specs.Code.Shifts.{IsLowestFrom, HoldsNowhere}
use Rattle.ov_graph.specs.Neighbours.{IsFirst}

-- a set bit is a 1
pub bit_one : (row : List ℕ) (p : ℕ) → HasBit row p → bit_at (slice_index row (p / 64)) (p % 64) ≡ 1
unfolding has_bit
bit_one row p h = eqb-true (bit_at (slice_index row (p / 64)) (p % 64)) 1 h

pub one_bit : (row : List ℕ) (p : ℕ) → bit_at (slice_index row (p / 64)) (p % 64) ≡ 1 → HasBit row p
unfolding has_bit
one_bit row p e = eq-eqb (bit_at (slice_index row (p / 64)) (p % 64)) 1 e

-- a bit by its word and its place in the word
pub bit_in : (row : List ℕ) (word t p : ℕ) → t < 64 → p ≡ 64 * word + t → bit_at (slice_index row word) t ≡ 1
    → HasBit row p
bit_in row word t p l e h =
    let d : p / 64 ≡ word = omega (arith, e, div-mul-add word 64 t l) in
    let m : p % 64 ≡ t = omega (arith, e, mod-mul-add word 64 t l) in
    one_bit row p
    (ap (λ (w : ℕ). bit_at (slice_index row w) (p % 64)) d ∙ ap (λ (i : ℕ). bit_at (slice_index row word) i) m ∙ h)

pub bit_of : (row : List ℕ) (word t p : ℕ) → t < 64 → p ≡ 64 * word + t → HasBit row p
    → bit_at (slice_index row word) t ≡ 1
bit_of row word t p l e h =
    let d : p / 64 ≡ word = omega (arith, e, div-mul-add word 64 t l) in
    let m : p % 64 ≡ t = omega (arith, e, mod-mul-add word 64 t l) in
    ap (λ (i : ℕ). bit_at (slice_index row word) i) (sym m)
    ∙ ap (λ (w : ℕ). bit_at (slice_index row w) (p % 64)) (sym d) ∙ bit_one row p h

pub no_word : (row : List ℕ) (p : ℕ) → slice_index row (p / 64) ≡ 0 → ¬ HasBit row p
no_word row p z h =
    let e = bit_one row p h in
    let o = bit_at-zero (p % 64) in
    let f : bit_at (slice_index row (p / 64)) (p % 64) ≡ bit_at 0 (p % 64) = ap (λ (w : ℕ). bit_at w (p % 64)) z in
    absurd (omega (arith, e, o, f))

-- a row has no bit past its words
pub bit_below : (row : List ℕ) (p : ℕ) → HasBit row p → p < 64 * length row
bit_below row p h = elim (cases_lt p (64 * length row)) [
  | inl l ↦ l
  | inr ge ↦
      let d = div-add-mod' p 64 in
      let m = mod_below p 64 (omega arith) in
      absurd (no_word row p (get_or-eq_default row 0 {n = p / 64} (omega (arith, d, m, ge))) h)
]

pub no_row : (p : ℕ) → ¬ HasBit [] p
no_row p h = let l = bit_below [] p h in absurd (omega (arith, l))

pub bit_moved : (row : List ℕ) (p q : ℕ) → p ≡ q → HasBit row p → HasBit row q
bit_moved row p q e h = subst (λ (i : ℕ). HasBit row i) e h

same_place : (p q : ℕ) → p / 64 ≡ q / 64 → p % 64 ≡ q % 64 → p ≡ q
same_place p q e f = omega (arith, div-add-mod' p 64, div-add-mod' q 64, e, f)

-- the word of bit p is replaced. The bits of other words stay
bit_there : (row : List ℕ) (p a : ℕ) → p / 64 < length row
    → bit_at (slice_index (set row (p / 64) a) (p / 64)) (p % 64) ≡ bit_at a (p % 64)
bit_there row p a l = ap (λ (w : ℕ). bit_at w (p % 64)) (get_or-set_same row (p / 64) a 0 l)

bit_elsewhere : (row : List ℕ) (p a : ℕ) → p / 64 < length row
    → ((i : ℕ) → i < 64 → ¬ (i ≡ p % 64) → bit_at a i ≡ bit_at (slice_index row (p / 64)) i)
    → (q : ℕ) → q ≢ p → HasBit (set row (p / 64) a) q ↔ HasBit row q
bit_elsewhere row p a l others q ne =
    let now = set row (p / 64) a in
    let same : bit_at (slice_index now (q / 64)) (q % 64) ≡ bit_at (slice_index row (q / 64)) (q % 64) =
    elim (cases_eq (q / 64) (p / 64)) [
      | inl e ↦
          let w = subst (λ (i : ℕ). slice_index now i ≡ a) (sym e) (get_or-set_same row (p / 64) a 0 l) in
          ap (λ (m : ℕ). bit_at m (q % 64)) w
          ∙ others (q % 64) (mod_below q 64 (omega arith)) (λ f. ne (same_place q p e f))
          ∙ ap (λ (i : ℕ). bit_at (slice_index row i) (q % 64)) (sym e)
      | inr d ↦ ap (λ (m : ℕ). bit_at m (q % 64)) (get_or-set_other row (p / 64) (q / 64) a 0 d)
    ] in
    ((λ h. one_bit row q (sym same ∙ bit_one now q h)), (λ h. one_bit now q (same ∙ bit_one row q h)))

-- bit p is set, or cleared, and the other bits stay
pub put_bit : (row : List ℕ) (p a : ℕ) → p / 64 < length row → bit_at a (p % 64) ≡ 1
    → ((i : ℕ) → ¬ (i ≡ p % 64) → bit_at a i ≡ bit_at (slice_index row (p / 64)) i)
    → (q : ℕ) → HasBit (set row (p / 64) a) q ↔ ((q ≡ p) ⊎ HasBit row q)
put_bit row p a l one others q = elim (cases_eq q p) [
  | inl e ↦
      let there = one_bit (set row (p / 64) a) p (bit_there row p a l ∙ one) in
      ((λ h. inl e), (λ h. bit_moved (set row (p / 64) a) p q (sym e) there))
  | inr ne ↦
      let b = bit_elsewhere row p a l (λ i m n. others i n) q ne in
      ((λ h. inr (b.0 h)), (λ h. elim h [ inl e ↦ absurd (ne e) | inr k ↦ b.1 k ]))
]

pub clear_bit : (row : List ℕ) (p a : ℕ) → p / 64 < length row → bit_at a (p % 64) ≡ 0
    → ((i : ℕ) → i < 64 → ¬ (i ≡ p % 64) → bit_at a i ≡ bit_at (slice_index row (p / 64)) i)
    → (q : ℕ) → HasBit (set row (p / 64) a) q ↔ ((q ≢ p) × HasBit row q)
clear_bit row p a l none others q = elim (cases_eq q p) [
  | inl e ↦
      let z = bit_there row p a l ∙ none in (
        (λ h.
            let o = bit_one (set row (p / 64) a) p (bit_moved (set row (p / 64) a) q p e h) in
            absurd (omega (arith, o, z))),
        (λ h. absurd (h.0 e)),
      )
  | inr ne ↦ let b = bit_elsewhere row p a l others q ne in ((λ h. (ne, b.0 h)), (λ h. b.1 h.1))
]

-- the bits of a word that is shifted down
pub bit_shifted : (word k i : ℕ) → bit_at (word / 2 ^ k) i ≡ bit_at word (k + i)
bit_shifted word k i = ap (λ (n : ℕ). n % 2)
    (div-div-eq-div-mul word (2 ^ k) (2 ^ i) ∙ ap (λ (n : ℕ). word / n) (sym (pow-add 2 k i)))

-- the first bit from `start` on is the lowest of the shifted word
pub lowest_bit : (word start : ℕ) → 0 < word / 2 ^ start → word < 2 ^ 64
    → IsLowestFrom word start (start + trailing_zeros w64 (word / 2 ^ start))
lowest_bit word start pos fits =
    let left = word / 2 ^ start in
    let less : left ≤ word = div-le_self word (2 ^ start) in
    let h = bit_at-trailing_zeros w64 left pos (omega (arith, less, fits)) in
    let t = trailing_zeros w64 left in
    let one : bit_at word (start + t) ≡ 1 = sym (bit_shifted word start t) ∙ h.1 in
    record {
      reached = omega arith;
      below = elim (cases_lt (start + t) 64) [
        | inl l ↦ l
        | inr ge ↦ let z = bit_at_above word 64 (start + t) fits ge in absurd (omega (arith, z, one))
      ];
      set = one;
      first = λ i a b.
          let k : ℕ = i - start in
          let e : start + k ≡ i = omega (arith, a) in
          sym (ap (bit_at word) e) ∙ sym (bit_shifted word start k) ∙ h.2 k (omega (arith, a, b));
    }

-- the shifted word is 0
pub none_left : (word start : ℕ) → word / 2 ^ start ≡ 0 → (i : ℕ) → start ≤ i → bit_at word i ≡ 0
none_left word start none i l =
    let k : ℕ = i - start in
    let e : start + k ≡ i = omega (arith, l) in
    sym (ap (bit_at word) e) ∙ sym (bit_shifted word start k) ∙ ap (λ (n : ℕ). bit_at n k) none ∙ bit_at-zero k

-- the bits of v are those places of one word of a row for which P holds
abbrev pub Shows : (ℕ → Type 0) → ℕ → ℕ → Type 0
Shows P word v = (i : ℕ) → i < 64 → (bit_at v i ≡ 1) ↔ P (64 * word + i)

pub shows_row : (row : List ℕ) (word : ℕ) → Shows (HasBit row) word (slice_index row word)
shows_row row word i l = (bit_in row word i (64 * word + i) l refl, bit_of row word i (64 * word + i) l refl)

-- the first place of one more word
pub first_more : (P : ℕ → Type 0) (from word start v t : ℕ) → Shows P word v → from ≤ 64 * word + start
    → HoldsNowhere P from (64 * word + start) → IsLowestFrom v start t → IsFirst P from (64 * word + t)
first_more P from word start v t shows l none low =
    let r = low.reached in
    record {
      reached = omega (arith, l, r);
      holds = (shows t low.below).0 low.set;
      first = λ q a b h. elim (cases_lt q (64 * word + start)) [
        | inl c ↦ none q a c h
        | inr ge ↦
            let w = low.below in
            let i : ℕ = q - 64 * word in
            let e : q ≡ 64 * word + i = omega (arith, ge) in
            let o = (shows i (omega (arith, b, w, ge))).1 (subst P e h) in
            let z = low.first i (omega (arith, ge)) (omega (arith, b, ge)) in
            absurd (omega (arith, o, z))
      ];
    }

-- one more word shows no place
pub none_more : (P : ℕ → Type 0) (from word start v : ℕ) → Shows P word v → HoldsNowhere P from (64 * word + start)
    → ((i : ℕ) → start ≤ i → i < 64 → bit_at v i ≡ 0) → HoldsNowhere P from (64 * (word + 1))
none_more P from word start v shows none zero q a b h = elim (cases_lt q (64 * word + start)) [
  | inl c ↦ none q a c h
  | inr ge ↦
      let i : ℕ = q - 64 * word in
      let e : q ≡ 64 * word + i = omega (arith, ge) in
      let o = (shows i (omega (arith, b, ge))).1 (subst P e h) in
      let z = zero i (omega (arith, ge)) (omega (arith, b, ge)) in
      absurd (omega (arith, o, z))
]

-- the same of what holds for the same places
pub first_by : (P Q : ℕ → Type 0) (from p : ℕ) → ((q : ℕ) → P q ↔ Q q) → IsFirst P from p → IsFirst Q from p
first_by P Q from p same first =
    record { reached = first.reached; holds = (same p).0 first.holds; first = λ q a b h. first.first q a b ((same q).1 h) }

-- a row of words that are 0 has no bit
pub no_bits : (n p : ℕ) → ¬ HasBit (replicate n 0) p
no_bits n p h =
    let l = bit_below (replicate n 0) p h in
    let e = length-replicate {A = ℕ} n 0 in
    let d = div-add-mod' p 64 in
    no_word (replicate n 0) p (get_or-replicate {A = ℕ} n (p / 64) 0 0 (omega (arith, l, e, d))) h

pub empty_bit : (p : ℕ) → ¬ HasBit EMPTY p
empty_bit p h = no_bits WORDS p h

-- one more word has the wanted bits
pub word_more : (row : List ℕ) (word a : ℕ) (P : ℕ → Type 0) → word < length row
    → ((q : ℕ) → HasBit row q ↔ ((q < 64 * word) × P q)) → ((q : ℕ) → q / 64 ≡ word → (bit_at a (q % 64) ≡ 1) ↔ P q)
    → (q : ℕ) → HasBit (set row word a) q ↔ ((q < 64 * (word + 1)) × P q)
word_more row word a P l before here q =
    let v = div-add-mod' q 64 in
    let r = mod_below q 64 (omega arith) in
    elim (cases_eq (q / 64) word) [
      | inl e ↦
          let w : slice_index (set row word a) (q / 64) ≡ a =
          subst (λ (i : ℕ). slice_index (set row word a) i ≡ a) (sym e) (get_or-set_same row word a 0 l) in (
            (λ h. (
              omega (arith, v, r, e),
              (here q e).0
                  (ap (λ (n : ℕ). bit_at n (q % 64)) (sym w) ∙ bit_one (set row word a) q h),
            )),
            (λ h. one_bit (set row word a) q (ap (λ (n : ℕ). bit_at n (q % 64)) w ∙ (here q e).1 h.1)),
          )
      | inr d ↦
          let b = before q in
          let w : slice_index (set row word a) (q / 64) ≡ slice_index row (q / 64) =
          get_or-set_other row word (q / 64) a 0 d in (
            (λ h. let k = b.0 (one_bit row q (ap (λ (n : ℕ). bit_at n (q % 64)) (sym w) ∙ bit_one (set row word a) q h))
                in (let m = k.0 in omega (arith, m), k.1)),
            (λ h. let m = h.0 in one_bit (set row word a) q
                (ap (λ (n : ℕ). bit_at n (q % 64)) w ∙ bit_one row q (b.1 (omega (arith, v, r, m, d), h.1)))),
          )
    ]

-- no word is written yet
pub no_word_of : (n : ℕ) (P : ℕ → Type 0) (q : ℕ) → HasBit (replicate n 0) q ↔ ((q < 64 * 0) × P q)
no_word_of n P q = ((λ h. absurd (no_bits n q h)), (λ h. absurd (let l = h.0 in omega (arith, l))))

pub no_word_yet : (P : ℕ → Type 0) (q : ℕ) → HasBit EMPTY q ↔ ((q < 64 * 0) × P q)
no_word_yet P q = no_word_of WORDS P q

-- rows whose words are equal have the same bits, and equal bits make equal words
pub agree_more : (a b : List ℕ) (word : ℕ) → slice_index a word ≡ slice_index b word
    → ((q : ℕ) → q < 64 * word → HasBit a q ↔ HasBit b q) → (q : ℕ) → q < 64 * (word + 1) → HasBit a q ↔ HasBit b q
agree_more a b word same before q m = elim (cases_lt q (64 * word)) [
  | inl l ↦ before q l
  | inr ge ↦
      let e : q / 64 ≡ word = omega (arith, div-mul-add word 64 (q - 64 * word) (omega (arith, m, ge)), ge) in
      let w : slice_index a (q / 64) ≡ slice_index b (q / 64) =
      subst (λ (i : ℕ). slice_index a i ≡ slice_index b i) (sym e) same in (
        (λ h. one_bit b q (ap (λ (n : ℕ). bit_at n (q % 64)) (sym w) ∙ bit_one a q h)),
        (λ h. one_bit a q (ap (λ (n : ℕ). bit_at n (q % 64)) w ∙ bit_one b q h)),
      )
]

pub differ_here : (a b : List ℕ) (word : ℕ) → slice_index a word < 2 ^ 64 → slice_index b word < 2 ^ 64
    → ((i : ℕ) → i < 64 → HasBit a (64 * word + i) ↔ HasBit b (64 * word + i)) → slice_index a word ≡ slice_index b word
differ_here a b word fa fb same =
    same_from_bits_below 64 (slice_index a word) (slice_index b word) fa fb (λ i l.
    let p = bit_at-lt (slice_index a word) i in
    let r = bit_at-lt (slice_index b word) i in
    elim (cases_eq (bit_at (slice_index a word) i) 1) [
      | inl o ↦ let k = bit_of b word i (64 * word + i) l refl ((same i l).0 (bit_in a word i (64 * word + i) l refl o))
          in o ∙ sym k
      | inr n ↦ elim (cases_eq (bit_at (slice_index b word) i) 1) [
        | inl o ↦
            absurd (n
            (bit_of a word i (64 * word + i) l refl ((same i l).1 (bit_in b word i (64 * word + i) l refl o))))
        | inr m ↦ omega (arith, p, r, n, m)
      ]
    ])

word_of : (row : List ℕ) (word q : ℕ) → q / 64 ≡ word
    → bit_at (slice_index row word) (q % 64) ≡ bit_at (slice_index row (q / 64)) (q % 64)
word_of row word q e = ap (λ (w : ℕ). bit_at (slice_index row w) (q % 64)) (sym e)

-- the bits of one word
pub same_bits : (row : List ℕ) (word q : ℕ) → q / 64 ≡ word
    → (bit_at (slice_index row word) (q % 64) ≡ 1) ↔ HasBit row q
same_bits row word q e =
    let u = word_of row word q e in ((λ h. one_bit row q (sym u ∙ h)), (λ h. u ∙ bit_one row q h))

-- the bits of two words that are set in both
pub both_bits : (a b : List ℕ) (word q : ℕ) → q / 64 ≡ word
    → (bit_at (bit_and (slice_index a word) (slice_index b word)) (q % 64) ≡ 1) ↔ (HasBit a q × HasBit b q)
both_bits a b word q e =
    let x = bit_at_and (slice_index a word) (slice_index b word) (q % 64) in
    let p = bit_at-lt (slice_index a word) (q % 64) in
    let r = bit_at-lt (slice_index b word) (q % 64) in
    let u = word_of a word q e in
    let v = word_of b word q e in (
      (λ h. (one_bit a q (omega (arith, x, p, r, u, h)), one_bit b q (omega (arith, x, p, r, v, h)))),
      (λ h. let i = bit_one a q h.0 in let j = bit_one b q h.1 in omega (arith, x, u, v, i, j)),
    )

-- a word shows the bits that are set in one row and not in another, or in both
pub shows_without : (a b : List ℕ) (word v : ℕ)
    → ((i : ℕ) → i < 64
    → (bit_at v i ≡ 1) ↔ ((bit_at (slice_index a word) i ≡ 1) × ¬ (bit_at (slice_index b word) i ≡ 1)))
    → Shows (λ q. HasBit a q × ¬ HasBit b q) word v
shows_without a b word v minus i l =
    let p = 64 * word + i in
    let m = minus i l in (
      (λ h. let r = m.0 h in (bit_in a word i p l refl r.0, λ k. r.1 (bit_of b word i p l refl k))),
      (λ h. m.1 (bit_of a word i p l refl h.0, λ k. h.1 (bit_in b word i p l refl k))),
    )

pub shows_both : (a b : List ℕ) (word : ℕ)
    → Shows (λ q. HasBit a q × HasBit b q) word (bit_and (slice_index a word) (slice_index b word))
shows_both a b word i l =
    let p = 64 * word + i in
    let x = bit_at_and (slice_index a word) (slice_index b word) i in
    let u = bit_at-lt (slice_index a word) i in
    let v = bit_at-lt (slice_index b word) i in (
      (λ h. (bit_in a word i p l refl (omega (arith, x, u, v, h)), bit_in b word i p l refl (omega (arith, x, u, v, h)))),
      (λ h.
          let m = bit_of a word i p l refl h.0 in
          let n = bit_of b word i p l refl h.1 in
          omega (arith, x, m, n)),
    )

-- in the first words of `kept` the bits are those of row a that are not set in row b
abbrev pub AreWithout : List ℕ → List ℕ → ℕ → List ℕ → Type 0
AreWithout a b words kept = (p : ℕ) → HasBit kept p ↔ ((p < 64 * words) × HasBit a p × ¬ HasBit b p)

-- the bits of one word that are not set in another
pub word_without : (a b i : ℕ) → b < 2 ^ 64 → i < 64
    → (bit_at (bit_and a (2 ^ 64 - 1 - b)) i ≡ 1) ↔ ((bit_at a i ≡ 1) × ¬ (bit_at b i ≡ 1))
word_without a b i fits l =
    let x = bit_at_and a (bit_not w64 b) i in
    let y = bit_at_not w64 b i fits l in
    let p = bit_at-lt a i in
    let r = bit_at-lt b i in (
      (λ h. let h' : bit_at (bit_and a (bit_not w64 b)) i ≡ 1 = h in
          (omega (arith, x, y, p, r, h'), λ k. absurd (omega (arith, x, y, p, r, h', k)))),
      (λ h.
          let m = h.0 in
          let z : bit_at b i ≡ 0 = elim (cases_eq (bit_at b i) 1) [
            | inl o ↦ absurd (h.1 o)
            | inr n ↦ omega (arith, r, n)
          ] in
          let w : bit_at (bit_and a (bit_not w64 b)) i ≡ 1 = omega (arith, x, y, z, m) in
          w),
    )

pub bits_without : (a b : List ℕ) (word n q : ℕ)
    → ((i : ℕ) → i < 64
    → (bit_at n i ≡ 1) ↔ ((bit_at (slice_index a word) i ≡ 1) × ¬ (bit_at (slice_index b word) i ≡ 1)))
    → q / 64 ≡ word → (bit_at n (q % 64) ≡ 1) ↔ (HasBit a q × ¬ HasBit b q)
bits_without a b word n q minus e =
    let m = minus (q % 64) (mod_below q 64 (omega arith)) in
    let u = word_of a word q e in
    let v = word_of b word q e in (
      (λ h. let r = m.0 h in (one_bit a q (sym u ∙ r.0), λ k. r.1 (v ∙ bit_one b q k))),
      (λ h. m.1 (u ∙ bit_one a q h.0, λ k. h.1 (one_bit b q (sym v ∙ k)))),
    )

-- the words for the nodes of a graph are at most those of a row
pub few_words : (n words : ℕ) → n ≤ most_nodes → AreWordsFor n words → words ≤ WORDS
few_words n words few for_n = let l = for_n.least in omega (arith, few, l)
