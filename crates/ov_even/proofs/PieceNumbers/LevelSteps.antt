-- The pieces of a level that are still to come, step by step.
use Rattle.std.proofs.Common.{◌≡◌, ℕ, zero, suc, ◌+◌, ◌-◌, ◌<◌, ◌≤◌, inl, inr, List, [], ◌∷◌, ◌++◌, leb}
use Rattle.std.proofs.Common.{refl, sym, ap, ◌∙◌, arith}
use Rattle.std.proofs.lemmas.Bool.{le-leb, lt-leb, cond-true, cond-false, cases_lt}
use Rattle.ov_fans.specs.declared.piece.Piece.{Piece}
use Rattle.ov_fans.specs.declared.piece.Piece.TheVariants.{Pair, Fan}
use Rattle.ov_even.specs.Code.Levels.{pairs_from, column_from, columns_behind, pieces_of_level, pieces_from}
use Rattle.ov_even.proofs.PieceOrder.Columns.{column_of_pairs, column_of_fan}
use Rattle.ov_even.proofs.PieceNumbers.LevelPlaces.{columns_split}

from_column : (m level j i : ℕ) → j ≤ m
    → pieces_from m level j i ≡ column_from level j i ++ columns_behind level j (m - j)
unfolding pieces_from
from_column m level j i l =
    cond-true (leb j m) (column_from level j i ++ columns_behind level j (m - j)) [] (le-leb j m l)

pub no_more : (m level j i : ℕ) → m < j → pieces_from m level j i ≡ []
unfolding pieces_from
no_more m level j i l = cond-false (leb j m) (column_from level j i ++ columns_behind level j (m - j)) [] (lt-leb j m l)

-- the columns after j are the next column and those after it
columns_next : (m level j : ℕ) → columns_behind level j (m - j) ≡ pieces_from m level (suc j) 1
unfolding columns_behind
columns_next m level j = elim (cases_lt j m) [
  | inl l ↦
      let e : m - j ≡ suc (m - suc j) = omega arith in
      ap (columns_behind level j) e ∙ sym (from_column m level (suc j) 1 (omega arith))
  | inr l ↦
      let e : m - j ≡ 0 = omega arith in
      ap (columns_behind level j) e ∙ sym (no_more m level (suc j) 1 (omega arith))
]

-- behind the pieces for the first members those of the next column begin
pub all_behind : (m level done : ℕ) → done ≤ m
    → pieces_of_level m level ≡ pieces_of_level done level ++ pieces_from m level (suc done) 1
all_behind m level done few =
    let e : m ≡ done + (m - done) = omega (arith, few) in
    let f : 0 + done ≡ done = omega arith in
    let first = columns_behind level 0 done in
    ap (columns_behind level 0) e ∙ columns_split level 0 done (m - done)
    ∙ ap (λ (x : ℕ). first ++ columns_behind level x (m - done)) f
    ∙ ap (λ (xs : List Piece). first ++ xs) (columns_next m level done)

-- the pieces of a level begin at column 2, since column 1 is empty
pub all_from_second : (m level : ℕ) → 1 ≤ level → pieces_of_level m level ≡ pieces_from m level 2 1
unfolding columns_behind pairs_from
all_from_second zero level low = sym (no_more 0 level 2 1 (omega arith))
all_from_second (suc m) level low =
    let e : 1 - 1 ≡ 0 = refl in
    let first : column_from level 1 1 ≡ [] = column_of_pairs level 1 1 low ∙ ap (pairs_from level 1 1) e in
    let f : m ≡ suc m - 1 = omega arith in
    ap (λ (xs : List Piece). xs ++ columns_behind level 1 m) first
    ∙ ap (columns_behind level 1) f ∙ columns_next (suc m) level 1

pub next_pair : (m level j i : ℕ) → j ≤ m → j ≤ level → suc i < j
    → pieces_from m level j i ≡ Pair level i j ∷ pieces_from m level j (suc i)
unfolding pairs_from
next_pair m level j i l among less =
    let e : j - i ≡ suc (j - suc i) = omega arith in
    let tail = columns_behind level j (m - j) in
    let from : (k : ℕ) → pieces_from m level j k ≡ pairs_from level j k (j - k) ++ tail = λ k.
    from_column m level j k l ∙ ap (λ (xs : List Piece). xs ++ tail) (column_of_pairs level j k among) in
    from i ∙ ap (λ (x : ℕ). pairs_from level j i x ++ tail) e
    ∙ ap (λ (xs : List Piece). Pair level i j ∷ xs) (sym (from (suc i)))

pub last_pair : (m level j i : ℕ) → j ≤ m → j ≤ level → suc i ≡ j
    → pieces_from m level j i ≡ Pair level i j ∷ pieces_from m level (suc j) 1
unfolding pairs_from
last_pair m level j i l among last =
    let e : j - i ≡ 1 = omega arith in
    let tail = columns_behind level j (m - j) in
    from_column m level j i l ∙ ap (λ (xs : List Piece). xs ++ tail) (column_of_pairs level j i among)
    ∙ ap (λ (x : ℕ). pairs_from level j i x ++ tail) e
    ∙ ap (λ (xs : List Piece). Pair level i j ∷ xs) (columns_next m level j)

-- a fan does not depend on the first member
same_fan : (m level j i k : ℕ) → level < j → pieces_from m level j i ≡ pieces_from m level j k
same_fan m level j i k later = elim (cases_lt m j) [
  | inl l ↦ no_more m level j i l ∙ sym (no_more m level j k l)
  | inr l ↦
      let tail = columns_behind level j (m - j) in
      let e = column_of_fan level j i later ∙ sym (column_of_fan level j k later) in
      from_column m level j i l ∙ ap (λ (xs : List Piece). xs ++ tail) e ∙ sym (from_column m level j k l)
]

pub next_fan : (m level j i : ℕ) → j ≤ m → level < j
    → pieces_from m level j i ≡ Fan level j ∷ pieces_from m level (suc j) i
next_fan m level j i l later =
    let tail = columns_behind level j (m - j) in
    from_column m level j i l ∙ ap (λ (xs : List Piece). xs ++ tail) (column_of_fan level j i later)
    ∙ ap (λ (xs : List Piece). Fan level j ∷ xs) (columns_next m level j ∙ same_fan m level (suc j) 1 i (omega arith))
