-- The number of pieces of a level, and the place of each piece.
use Rattle.std.proofs.Common.{◌≡◌, ℕ, zero, suc, ◌+◌, ◌-◌, ◌<◌, ◌≤◌, inl, inr, List, [], ◌++◌, length, Some}
use Rattle.std.proofs.Common.{refl, sym, ap, ◌∙◌, arith, append_assoc}
use Rattle.std.proofs.lemmas.Bool.{cases_lt}
use Rattle.std.proofs.lemmas.List.{length-append}
use Rattle.std.specs.List.{slice_get}
use Rattle.ov_fans.specs.declared.piece.Piece.{Piece}
use Rattle.ov_fans.specs.declared.piece.Piece.TheVariants.{Pair, Fan}
use Rattle.ov_even.specs.Code.Levels.{pairs_from, column_from, columns_behind, pieces_of_level, pairs_among}
use Rattle.ov_even.proofs.PieceOrder.Columns.{column_of_pairs, column_of_fan}
use Rattle.ov_even.proofs.PieceOrder.InOrder.{at_left, at_right}
use Rattle.ov_even.proofs.PieceNumbers.Pairs.{pairs_rise, pairs_within}

pub length_pairs : (level j i left : ℕ) → length (pairs_from level j i left) ≡ left
unfolding pairs_from
length_pairs level j i zero = refl
length_pairs level j i (suc left) = ap suc (length_pairs level j (suc i) left)

pairs_at : (level j i left k : ℕ) → k < left → slice_get (pairs_from level j i left) k ≡ Some (Pair level (i + k) j)
unfolding pairs_from
pairs_at level j i zero k l = absurd (omega arith)
pairs_at level j i (suc left) zero l = let e : i ≡ i + 0 = omega arith in ap (λ (x : ℕ). Some (Pair level x j)) e
pairs_at level j i (suc left) (suc k) l =
    let e : suc i + k ≡ i + suc k = omega arith in
    pairs_at level j (suc i) left k (omega arith) ∙ ap (λ (x : ℕ). Some (Pair level x j)) e

-- a number of columns is split into two parts
pub columns_split : (level j a b : ℕ)
    → columns_behind level j (a + b) ≡ columns_behind level j a ++ columns_behind level (j + a) b
unfolding columns_behind
columns_split level j zero b = let e : j ≡ j + 0 = omega arith in let f : 0 + b ≡ b = omega arith in
    ap (columns_behind level j) f ∙ ap (λ (x : ℕ). columns_behind level x b) e
columns_split level j (suc a) b =
    let e : suc a + b ≡ suc (a + b) = omega arith in
    let f : suc j + a ≡ j + suc a = omega arith in
    ap (columns_behind level j) e
    ∙ ap (λ (xs : List Piece). column_from level (suc j) 1 ++ xs) (columns_split level (suc j) a b)
    ∙ ap (λ (x : ℕ). column_from level (suc j) 1 ++ (columns_behind level (suc j) a ++ columns_behind level x b)) f
    ∙ sym (append_assoc (column_from level (suc j) 1) (columns_behind level (suc j) a)
    (columns_behind level (j + suc a) b))

-- one more column
length_more : (level q : ℕ) → length (columns_behind level 0 (suc q))
    ≡ length (columns_behind level 0 q) + length (column_from level (suc q) 1)
unfolding columns_behind
length_more level q =
    let e : suc q ≡ q + 1 = omega arith in
    let f : 0 + q ≡ q = omega arith in
    let s = ap (λ (x : ℕ). length (columns_behind level 0 x)) e ∙ ap length (columns_split level 0 q 1) in
    let t = length-append (columns_behind level 0 q) (columns_behind level (0 + q) 1) in
    let u = ap (λ (x : ℕ). length (columns_behind level x 1)) f in
    let v = length-append (column_from level (suc q) 1) [] in
    omega (arith, s, t, u, v)

-- the columns up to the level have one piece for each pair
pub length_low : (level q : ℕ) → q ≤ level → length (columns_behind level 0 q) ≡ pairs_among q
unfolding columns_behind pairs_among
length_low level zero l = refl
length_low level (suc q) l =
    let e = ap length (column_of_pairs level (suc q) 1 l) ∙ length_pairs level (suc q) 1 (suc q - 1) in
    omega (arith, length_more level q, length_low level q (omega arith), e)

-- each column after the level has one more piece
pub length_high : (level k : ℕ) → length (columns_behind level 0 (level + k)) ≡ pairs_among level + k
unfolding columns_behind
length_high level zero =
    let e : level + 0 ≡ level = omega arith in
    let f = ap (λ (x : ℕ). length (columns_behind level 0 x)) e in
    omega (arith, f, length_low level level (omega arith))
length_high level (suc k) =
    let e : level + suc k ≡ suc (level + k) = omega arith in
    let f = ap (λ (x : ℕ). length (columns_behind level 0 x)) e in
    let g = ap length (column_of_fan level (suc (level + k)) 1 (omega arith)) in
    omega (arith, f, length_more level (level + k), length_high level k, g)

-- the piece at place k of the column after q
at_column : (m level q k : ℕ) (p : Piece) → q < m → k < length (column_from level (suc q) 1)
    → slice_get (column_from level (suc q) 1) k ≡ Some p
    → slice_get (pieces_of_level m level) (length (columns_behind level 0 q) + k) ≡ Some p
unfolding columns_behind
at_column m level q k p l within is =
    let e : m ≡ q + suc (m - suc q) = omega arith in
    let f : 0 + q ≡ q = omega arith in
    let first = columns_behind level 0 q in
    let column = column_from level (suc q) 1 in
    let later = columns_behind level (suc q) (m - suc q) in
    let s : pieces_of_level m level ≡ first ++ (column ++ later) =
    ap (columns_behind level 0) e ∙ columns_split level 0 q (suc (m - suc q))
    ∙ ap (λ (x : ℕ). columns_behind level 0 q ++ columns_behind level x (suc (m - suc q))) f in
    ap (λ (xs : List Piece). slice_get xs (length first + k)) s
    ∙ at_right first (column ++ later) (length first + k) k refl ∙ at_left column later k within ∙ is

pub pair_placed : (m level i j : ℕ) → 1 ≤ i → i < j → j ≤ level → j ≤ m
    → slice_get (pieces_of_level m level) (pairs_among (j - 1) + (i - 1)) ≡ Some (Pair level i j)
pair_placed m level i zero a b c d = absurd (omega arith)
pair_placed m level i (suc q) a b c d =
    let e = column_of_pairs level (suc q) 1 c in
    let f : suc q - 1 ≡ q = omega arith in
    let g = ap length e ∙ length_pairs level (suc q) 1 (suc q - 1) in
    let h : 1 + (i - 1) ≡ i = omega arith in
    let is = ap (λ (xs : List Piece). slice_get xs (i - 1)) e
    ∙ pairs_at level (suc q) 1 (suc q - 1) (i - 1) (omega arith) ∙ ap (λ (x : ℕ). Some (Pair level x (suc q))) h in
    let low = length_low level q (omega arith) in
    let same : pairs_among (suc q - 1) + (i - 1) ≡ length (columns_behind level 0 q) + (i - 1) =
    ap (λ (x : ℕ). pairs_among x + (i - 1)) f ∙ ap (λ (x : ℕ). x + (i - 1)) (sym low) in
    ap (slice_get (pieces_of_level m level)) same
    ∙ at_column m level q (i - 1) (Pair level i (suc q)) (omega arith) (omega (arith, g)) is

pub fan_placed : (m level j : ℕ) → level < j → j ≤ m
    → slice_get (pieces_of_level m level) (pairs_among level + (j - level - 1)) ≡ Some (Fan level j)
fan_placed m level zero l d = absurd (omega arith)
fan_placed m level (suc q) l d =
    let e = column_of_fan level (suc q) 1 l in
    let f : level + (suc q - level - 1) ≡ q = omega arith in
    let g = ap length e in
    let is = ap (λ (xs : List Piece). slice_get xs 0) e in
    let high = ap (λ (x : ℕ). length (columns_behind level 0 x)) (sym f) ∙ length_high level (suc q - level - 1) in
    let same : pairs_among level + (suc q - level - 1) ≡ length (columns_behind level 0 q) + 0 = omega (arith, high) in
    ap (slice_get (pieces_of_level m level)) same
    ∙ at_column m level q 0 (Fan level (suc q)) (omega arith) (omega (arith, g)) is

-- a level has one piece for each pair of its first members, and one for each later member
pub length_level_low : (m level : ℕ) → m ≤ level → length (pieces_of_level m level) ≡ pairs_among m
length_level_low m level l = length_low level m l

pub length_level_high : (m level : ℕ) → level ≤ m → length (pieces_of_level m level) ≡ pairs_among level + (m - level)
length_level_high m level l =
    let e : m ≡ level + (m - level) = omega arith in
    ap (λ (x : ℕ). length (columns_behind level 0 x)) e ∙ length_high level (m - level)

-- the pair at a place of a level is a pair of members
pub pair_member : (m level place i j : ℕ) → place < length (pieces_of_level m level)
    → place ≡ pairs_among (j - 1) + (i - 1) → j ≤ level → 1 ≤ j → j ≤ m
pair_member m level place i j below there among some = elim (cases_lt m level) [
  | inl l ↦
      let e = length_level_low m level (omega arith) in
      let k = pairs_within (j - 1) m (omega (arith, e)) in omega arith
  | inr l ↦ omega arith
]

-- a place after the pairs of a level is the place of a later member
pub fan_member : (m level place : ℕ) → place < length (pieces_of_level m level) → pairs_among level ≤ place
    → level + (place - pairs_among level) < m
fan_member m level place below behind = elim (cases_lt level m) [
  | inl l ↦ let e = length_level_high m level (omega arith) in omega (arith, e)
  | inr l ↦
      let e = length_level_low m level l in
      let f : level ≡ m + (level - m) = omega arith in
      let g = ap pairs_among f in
      absurd (omega (arith, e, g, pairs_rise m (level - m)))
]
