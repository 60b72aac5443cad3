-- How many bits a row has, and what it picks.
use Rattle.std.proofs.Common.{◌≡◌, ◌∙◌, ◌↔◌, ◌⊎◌, ℕ, zero, suc, ◌+◌, ◌-◌, ◌*◌, ◌/◌, ◌%◌, ◌^◌, ◌<◌, ◌≤◌, List, [], ◌∷◌}
use Rattle.std.proofs.Common.{Bool, true, false, cond, length, get_or, slice_index, bit_or, inl, inr, refl, sym, ap}
use Rattle.std.proofs.Common.{subst, arith}
use Rattle.std.proofs.lemmas.Bool.{cases_eq}
use Rattle.std.proofs.lemmas.Nat.{div-add-mod', ones_le_self}
use Rattle.std.proofs.lemmas.Nat.Bits.{bit_at_or, bit_at-lt, bit_at-suc, bit_at_lowest}
use Rattle.std.proofs.Math.Nat.{pow-suc}
use Rattle.std.specs.Int.{bit_at}
use Rattle.std.specs.Int.Count.{ones}
use lib.Count.{ones_step}
use Rattle.ov_ids.specs.Members.{Has}
use Rattle.ov_graph.specs.Row.{has_bit, HasBit, picked}
use Rattle.ov_graph.proofs.BitRows.Bits.{bit_one, one_bit, bit_in, bit_of, bit_moved}
use Rattle.ov_graph.proofs.BitRows.Read.{has_picked}
use Rattle.ov_shape.specs.Sums.{IsSum}
use Rattle.ov_shape.proofs.ShapeOfGraph.Sums.{sum_at}

pub bit_or_not : (row : List ℕ) (p : ℕ) → HasBit row p ⊎ (¬ HasBit row p)
bit_or_not row p =
    elim (has_bit row p) as (λ b. (b ≡ true) ⊎ (¬ (b ≡ true))) [ true ↦ inl refl | false ↦ inr (λ e. cc) ]

-- the next node is picked, or not
pub picked_set : (row : List ℕ) (p x : ℕ) (xs : List ℕ) → HasBit row p
    → picked row p (x ∷ xs) ≡ x ∷ picked row (suc p) xs
unfolding picked
picked_set row p x xs h = ap (λ (b : Bool). cond b (x ∷ picked row (suc p) xs) (picked row (suc p) xs)) h

pub picked_clear : (row : List ℕ) (p x : ℕ) (xs : List ℕ) → (¬ HasBit row p)
    → picked row p (x ∷ xs) ≡ picked row (suc p) xs
unfolding picked
picked_clear row p x xs n =
    elim (has_bit row p) as
    (λ b. has_bit row p ≡ b → cond b (x ∷ picked row (suc p) xs) (picked row (suc p) xs) ≡ picked row (suc p) xs) [
      | true ↦ λ t. absurd (n t)
      | false ↦ λ t. refl
    ] refl

pub picked_none : (row : List ℕ) (p : ℕ) → picked row p [] ≡ []
unfolding picked
picked_none row p = refl

-- sets with the same places pick the same nodes
pub picked_same : (row set : List ℕ) (p : ℕ) (xs : List ℕ) → ((q : ℕ) → HasBit row q ↔ HasBit set q)
    → picked row p xs ≡ picked set p xs
picked_same row set p [] same = picked_none row p ∙ sym (picked_none set p)
picked_same row set p (x ∷ xs) same =
    let rest = picked_same row set (suc p) xs same in
    elim (bit_or_not row p) [
      | inl h ↦
          picked_set row p x xs h ∙ ap (λ (ys : List ℕ). x ∷ ys) rest
          ∙ sym (picked_set set p x xs ((same p).0 h))
      | inr n ↦ picked_clear row p x xs n ∙ rest ∙ sym (picked_clear set p x xs (λ h. n ((same p).1 h)))
    ]

-- no more nodes are picked than there are
pub few_picked : (row : List ℕ) (p : ℕ) (xs : List ℕ) → length (picked row p xs) ≤ length xs
few_picked row p [] =
    let e : length (picked row p []) ≡ 0 = ap (λ (ys : List ℕ). length ys) (picked_none row p) in
    omega (arith, e)
few_picked row p (x ∷ xs) =
    let r = few_picked row (suc p) xs in
    elim (bit_or_not row p) [
      | inl h ↦
          let e : length (picked row p (x ∷ xs)) ≡ suc (length (picked row (suc p) xs)) =
          ap (λ (ys : List ℕ). length ys) (picked_set row p x xs h) in
          omega (arith, r, e)
      | inr n ↦
          let e : length (picked row p (x ∷ xs)) ≡ length (picked row (suc p) xs) =
          ap (λ (ys : List ℕ). length ys) (picked_clear row p x xs n) in
          omega (arith, r, e)
    ]

-- if a node is picked, a bit is set
some_member : (row : List ℕ) (xs ys : List ℕ) → picked row 0 xs ≡ ys → 0 < length ys → (q : ℕ) × HasBit row q
some_member row xs [] e l = absurd (omega (arith, l))
some_member row xs (y ∷ ys) e l =
    let k = has_picked row 0 xs y (subst (λ (zs : List ℕ). Has zs y) (sym e) (inl refl)) in (0 + k.place, k.bit)

pub some_bit : (row xs : List ℕ) → 0 < length (picked row 0 xs) → (q : ℕ) × HasBit row q
some_bit row xs l = some_member row xs (picked row 0 xs) refl l

-- the bits of t are those of r and those of s, which are others
pub record IsParted (r s t : List ℕ) : Type 0 where
  pub each : (q : ℕ) → HasBit t q ↔ (HasBit r q ⊎ HasBit s q)
  pub apart : (q : ℕ) → HasBit s q → ¬ HasBit r q

-- as many nodes are picked by a row as by its two parts
pub count_parted : (r s t : List ℕ) (p : ℕ) (xs : List ℕ) → IsParted r s t
    → length (picked t p xs) ≡ length (picked r p xs) + length (picked s p xs)
count_parted r s t p [] parted =
    let a : length (picked r p []) ≡ 0 = ap (λ (ys : List ℕ). length ys) (picked_none r p) in
    let b : length (picked s p []) ≡ 0 = ap (λ (ys : List ℕ). length ys) (picked_none s p) in
    let c : length (picked t p []) ≡ 0 = ap (λ (ys : List ℕ). length ys) (picked_none t p) in
    omega (arith, a, b, c)
count_parted r s t p (x ∷ xs) parted =
    let m = count_parted r s t (suc p) xs parted in
    elim (bit_or_not r p) [
      | inl h ↦
          let n : ¬ HasBit s p = λ k. parted.apart p k h in
          let a = one_more r h in
          let b = no_more s n in
          let c = one_more t ((parted.each p).1 (inl h)) in
          omega (arith, m, a, b, c)
      | inr n ↦ elim (bit_or_not s p) [
        | inl h ↦
            let a = no_more r n in
            let b = one_more s h in
            let c = one_more t ((parted.each p).1 (inr h)) in
            omega (arith, m, a, b, c)
        | inr k ↦
            let a = no_more r n in
            let b = no_more s k in
            let c = no_more t (λ i. elim ((parted.each p).0 i) [ inl u ↦ n u | inr u ↦ k u ]) in
            omega (arith, m, a, b, c)
      ]
    ]
  where
    one_more : (row : List ℕ) → HasBit row p → length (picked row p (x ∷ xs)) ≡ suc (length (picked row (suc p) xs))
    one_more row h = ap (λ (ys : List ℕ). length ys) (picked_set row p x xs h)

    no_more : (row : List ℕ) → (¬ HasBit row p) → length (picked row p (x ∷ xs)) ≡ length (picked row (suc p) xs)
    no_more row n = ap (λ (ys : List ℕ). length ys) (picked_clear row p x xs n)

-- the sum over what a row picks, if R gives v to each node that the second part picks
pub sum_parted : (R : ℕ → ℕ → Type 0) (r s t : List ℕ) (v p : ℕ) (xs : List ℕ) (total : ℕ) → IsParted r s t
    → ((k : ℕ) → k < length xs → HasBit s (p + k) → R (get_or xs k 0) v) → IsSum R (picked r p xs) total
    → IsSum R (picked t p xs) (total + v * length (picked s p xs))
sum_parted R r s t v p [] total parted gives sum =
    let z : total ≡ 0 = sum_at R (picked r p []) [] total total (picked_none r p) refl sum in
    let b : length (picked s p []) ≡ 0 = ap (λ (ys : List ℕ). length ys) (picked_none s p) in
    let c : v * length (picked s p []) ≡ v * 0 = ap (λ (k : ℕ). v * k) b in
    let e : 0 ≡ total + v * length (picked s p []) = omega (arith, z, c) in
    let zero_sum : IsSum R [] 0 = refl in
    sum_at R [] (picked t p []) 0 (total + v * length (picked s p [])) (sym (picked_none t p)) e zero_sum
sum_parted R r s t v p (x ∷ xs) total parted gives sum =
    let later : (k : ℕ) → k < length xs → HasBit s (suc p + k) → R (get_or xs k 0) v =
    λ k l h. gives (suc k) (omega (arith, l)) (bit_moved s (suc p + k) (p + suc k) (omega arith) h) in
    elim (bit_or_not r p) [
      | inl h ↦
          let n : ¬ HasBit s p = λ k. parted.apart p k h in
          let u : IsSum R (x ∷ picked r (suc p) xs) total =
          sum_at R (picked r p (x ∷ xs)) (x ∷ picked r (suc p) xs) total total (picked_set r p x xs h) refl sum in
          let m = sum_parted R r s t v (suc p) xs (u.1) parted later u.3 in
          let l : length (picked s p (x ∷ xs)) ≡ length (picked s (suc p) xs) =
          ap (λ (ys : List ℕ). length ys) (picked_clear s p x xs n) in
          let f : v * length (picked s p (x ∷ xs)) ≡ v * length (picked s (suc p) xs) = ap (λ (k : ℕ). v * k) l in
          let g = u.4 in
          let e : u.0 + (u.1 + v * length (picked s (suc p) xs)) ≡ total + v * length (picked s p (x ∷ xs)) =
          omega (arith, f, g) in
          let w : IsSum R (x ∷ picked t (suc p) xs) (u.0 + (u.1 + v * length (picked s (suc p) xs))) =
          (u.0, u.1 + v * length (picked s (suc p) xs), u.2, m, refl) in
          sum_at R (x ∷ picked t (suc p) xs) (picked t p (x ∷ xs))
          (u.0 + (u.1 + v * length (picked s (suc p) xs))) (total + v * length (picked s p (x ∷ xs)))
          (sym (picked_set t p x xs ((parted.each p).1 (inl h)))) e w
      | inr n ↦
          let u : IsSum R (picked r (suc p) xs) total =
          sum_at R (picked r p (x ∷ xs)) (picked r (suc p) xs) total total (picked_clear r p x xs n) refl sum in
          let m = sum_parted R r s t v (suc p) xs total parted later u in
          elim (bit_or_not s p) [
            | inl h ↦
                let l : length (picked s p (x ∷ xs)) ≡ suc (length (picked s (suc p) xs)) =
                ap (λ (ys : List ℕ). length ys) (picked_set s p x xs h) in
                let f : v * length (picked s p (x ∷ xs)) ≡ v * suc (length (picked s (suc p) xs)) =
                ap (λ (k : ℕ). v * k) l in
                let e : v + (total + v * length (picked s (suc p) xs)) ≡ total + v * length (picked s p (x ∷ xs)) =
                omega (arith, f) in
                let gave : R x v = gives 0 (omega arith) (bit_moved s p (p + 0) (omega arith) h) in
                let w : IsSum R (x ∷ picked t (suc p) xs) (v + (total + v * length (picked s (suc p) xs))) =
                (v, total + v * length (picked s (suc p) xs), gave, m, refl) in
                sum_at R (x ∷ picked t (suc p) xs) (picked t p (x ∷ xs))
                (v + (total + v * length (picked s (suc p) xs))) (total + v * length (picked s p (x ∷ xs)))
                (sym (picked_set t p x xs ((parted.each p).1 (inr h)))) e w
            | inr k ↦
                let c : ¬ HasBit t p = λ i. elim ((parted.each p).0 i) [ inl a ↦ n a | inr a ↦ k a ] in
                let l : length (picked s (suc p) xs) ≡ length (picked s p (x ∷ xs)) =
                ap (λ (ys : List ℕ). length ys) (sym (picked_clear s p x xs k)) in
                let e : total + v * length (picked s (suc p) xs) ≡ total + v * length (picked s p (x ∷ xs)) =
                ap (λ (i : ℕ). total + v * i) l in
                sum_at R (picked t (suc p) xs) (picked t p (x ∷ xs)) (total + v * length (picked s (suc p) xs))
                (total + v * length (picked s p (x ∷ xs))) (sym (picked_clear t p x xs c)) e m
          ]
    ]

-- 1 of true, and 0 of false
abbrev pub one_if : Bool → ℕ
one_if true = 1
one_if false = 0

-- how many of k bits from place p on are set
abbrev pub bits : List ℕ → ℕ → ℕ → ℕ
bits row p zero = 0
bits row p (suc k) = one_if (has_bit row p) + bits row (suc p) k

one_set : (row : List ℕ) (p : ℕ) → HasBit row p → one_if (has_bit row p) ≡ 1
one_set row p h = ap one_if h

none_set : (row : List ℕ) (p : ℕ) → (¬ HasBit row p) → one_if (has_bit row p) ≡ 0
none_set row p n =
    elim (has_bit row p) as (λ b. has_bit row p ≡ b → one_if b ≡ 0) [
      | true ↦ λ t. absurd (n t)
      | false ↦ λ t. refl
    ] refl

pub bits_picked : (row : List ℕ) (p : ℕ) (xs : List ℕ) → length (picked row p xs) ≡ bits row p (length xs)
bits_picked row p [] = ap (λ (ys : List ℕ). length ys) (picked_none row p)
bits_picked row p (x ∷ xs) =
    let r = bits_picked row (suc p) xs in
    elim (bit_or_not row p) [
      | inl h ↦
          let e : length (picked row p (x ∷ xs)) ≡ suc (length (picked row (suc p) xs)) =
          ap (λ (ys : List ℕ). length ys) (picked_set row p x xs h) in
          let o = one_set row p h in
          omega (arith, r, e, o)
      | inr n ↦
          let e : length (picked row p (x ∷ xs)) ≡ length (picked row (suc p) xs) =
          ap (λ (ys : List ℕ). length ys) (picked_clear row p x xs n) in
          let o = none_set row p n in
          omega (arith, r, e, o)
    ]

pub bits_join : (row : List ℕ) (j k p : ℕ) → bits row p (j + k) ≡ bits row p j + bits row (p + j) k
bits_join row zero k p =
    let e : bits row p (0 + k) ≡ bits row p k = ap (λ (i : ℕ). bits row p i) (omega arith) in
    let f : bits row (p + 0) k ≡ bits row p k = ap (λ (i : ℕ). bits row i k) (omega arith) in
    omega (arith, e, f)
bits_join row (suc j) k p =
    let e : suc j + k ≡ suc (j + k) = omega arith in
    let f : suc p + j ≡ p + suc j = omega arith in
    let r = bits_join row j k (suc p) in
    let s : bits row (suc p + j) k ≡ bits row (p + suc j) k = ap (λ (i : ℕ). bits row i k) f in
    let t : bits row p (suc j + k) ≡ bits row p (suc (j + k)) = ap (λ (i : ℕ). bits row p i) e in
    omega (arith, r, s, t)

pub bits_none : (row : List ℕ) (k p : ℕ) → ((q : ℕ) → p ≤ q → ¬ HasBit row q) → bits row p k ≡ 0
bits_none row zero p none = refl
bits_none row (suc k) p none =
    let r = bits_none row k (suc p) (λ q l. none q (omega (arith, l))) in
    let o = none_set row p (none p (omega arith)) in
    omega (arith, r, o)

-- the bits of a word that stand in a row
pub bits_word : (k w p : ℕ) (row : List ℕ) → w < 2 ^ k
    → ((i : ℕ) → i < k → HasBit row (p + i) ↔ (bit_at w i ≡ 1)) → bits row p k ≡ ones w
bits_word zero w p row l same = let o = ones_le_self w in omega (arith, l, o)
bits_word (suc k) w p row l same =
    let pow = pow-suc 2 k in
    let half : w / 2 < 2 ^ k = omega (arith, l, pow, div-add-mod' w 2) in
    let r = bits_word k (w / 2) (suc p) row half
    (λ i m.
    let here = same (suc i) (omega (arith, m)) in
    let e = bit_at-suc w i in (
      (λ h. sym e ∙ here.0 (bit_moved row (suc p + i) (p + suc i) (omega arith) h)),
      (λ h. bit_moved row (p + suc i) (suc p + i) (omega arith) (here.1 (e ∙ h))),
    )) in
    let step = ones_step w in
    let two = bit_at-lt w 0 in
    let lowest = bit_at_lowest w in
    let first = same 0 (omega arith) in
    elim (bit_or_not row p) [
      | inl h ↦
          let o = one_set row p h in
          let b = first.0 (bit_moved row p (p + 0) (omega arith) h) in
          omega (arith, r, step, lowest, o, b)
      | inr n ↦
          let o = none_set row p n in
          let b : bit_at w 0 ≡ 0 = elim (cases_eq (bit_at w 0) 1) [
            | inl e ↦ absurd (n (bit_moved row (p + 0) p (omega arith) (first.1 e)))
            | inr ne ↦ omega arith
          ] in
          omega (arith, r, step, lowest, o, b)
    ]

-- the bits of one word more
pub word_counted : (row : List ℕ) (word : ℕ) → slice_index row word < 2 ^ 64
    → bits row 0 (64 * (word + 1)) ≡ bits row 0 (64 * word) + ones (slice_index row word)
word_counted row word l =
    let e : 64 * (word + 1) ≡ 64 * word + 64 = omega arith in
    let j = bits_join row (64 * word) 64 0 in
    let w = bits_word 64 (slice_index row word) (0 + 64 * word) row l
    (λ i m. (
      (λ h. bit_of row word i (0 + 64 * word + i) m (omega arith) h),
      (λ h. bit_in row word i (0 + 64 * word + i) m (omega arith) h),
    )) in
    let s : bits row 0 (64 * (word + 1)) ≡ bits row 0 (64 * word + 64) = ap (λ (i : ℕ). bits row 0 i) e in
    omega (arith, j, w, s)

-- all bits of a row are counted
pub all_counted : (row xs : List ℕ) (words : ℕ) → ((q : ℕ) → HasBit row q → q < length xs) → length xs ≤ 64 * words
    → bits row 0 (64 * words) ≡ length (picked row 0 xs)
all_counted row xs words within few =
    let n : ℕ = length xs in
    let k : ℕ = 64 * words - n in
    let e : 64 * words ≡ n + k = omega (arith, few) in
    let s : bits row 0 (64 * words) ≡ bits row 0 (n + k) = ap (λ (i : ℕ). bits row 0 i) e in
    let j = bits_join row n k 0 in
    let z = bits_none row k (0 + n) (λ q l h. let w = within q h in omega (arith, l, w)) in
    let b = bits_picked row 0 xs in
    omega (arith, s, j, z, b)

word_of : (row : List ℕ) (word q : ℕ) → q / 64 ≡ word
    → bit_at (slice_index row (q / 64)) (q % 64) ≡ bit_at (slice_index row word) (q % 64)
word_of row word q e = ap (λ (w : ℕ). bit_at (slice_index row w) (q % 64)) e

-- the bits of a word that either row has
pub either_bits : (a b : List ℕ) (word q : ℕ) → q / 64 ≡ word
    → (bit_at (bit_or (slice_index a word) (slice_index b word)) (q % 64) ≡ 1) ↔ (HasBit a q ⊎ HasBit b q)
either_bits a b word q e =
    let x = bit_at_or (slice_index a word) (slice_index b word) (q % 64) in
    let p = bit_at-lt (slice_index a word) (q % 64) in
    let r = bit_at-lt (slice_index b word) (q % 64) in
    let u = word_of a word q e in
    let v = word_of b word q e in (
      (λ h. elim (cases_eq (bit_at (slice_index a word) (q % 64)) 1) [
        | inl one ↦ inl (one_bit a q (u ∙ one))
        | inr ne ↦ inr (one_bit b q (omega (arith, x, p, r, v, h)))
      ]),
      (λ h. elim h [
        | inl i ↦ let o = bit_one a q i in omega (arith, x, p, r, u, o)
        | inr i ↦ let o = bit_one b q i in omega (arith, x, p, r, v, o)
      ]),
    )
