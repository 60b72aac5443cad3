-- The columns of a level: their pieces, and the order of these.
use Rattle.std.proofs.Common.{◌≡◌, ℕ, zero, suc, ◌+◌, ◌-◌, ◌<◌, ◌≤◌, ◌⊎◌, inl, inr, [], ◌∷◌, leb, refl, sym, ap, arith}
use Rattle.std.proofs.lemmas.Bool.{le-leb, lt-leb, cond-true, cond-false, cases_lt}
use Rattle.ov_ids.specs.Members.{Has, Ordered}
use Rattle.ov_ids.proofs.Members.{all_from_members, has_append_cases}
use Rattle.ov_fans.specs.Pieces.{level_of}
use Rattle.ov_fans.specs.declared.piece.Piece.{Piece}
use Rattle.ov_fans.specs.declared.piece.Piece.TheVariants.{Pair, Fan}
use Rattle.ov_even.specs.Order.{ComesBefore}
use Rattle.ov_fans.specs.Pieces.{IsPieceOf}
use Rattle.ov_even.specs.Code.Levels.{pairs_from, column_from, columns_behind, pieces_of_level}
use Rattle.ov_cert.proofs.EntryOrder.Columns.{ordered_append}

-- the piece is a pair, or a fan, in column j of the level
pub record IsPairAt (level j : ℕ) (p : Piece) : Type 0 where
  pub i : ℕ
  pub first : 1 ≤ i
  pub less : i < j
  pub among : j ≤ level
  pub is : p ≡ Pair level i j

pub record IsFanAt (level j : ℕ) (p : Piece) : Type 0 where
  pub later : level < j
  pub is : p ≡ Fan level j

abbrev pub IsAt : ℕ → ℕ → Piece → Type 0
IsAt level j p = IsPairAt level j p ⊎ IsFanAt level j p

-- the piece is in one of this many columns after column j
pub record IsInColumns (level j left : ℕ) (p : Piece) : Type 0 where
  pub column : ℕ
  pub behind : j < column
  pub within : column ≤ j + left
  pub at : IsAt level column p

pub column_of_pairs : (level j i : ℕ) → j ≤ level → column_from level j i ≡ pairs_from level j i (j - i)
unfolding column_from
column_of_pairs level j i l =
    cond-true (leb j level) (pairs_from level j i (j - i)) (Fan level j ∷ []) (le-leb j level l)

pub column_of_fan : (level j i : ℕ) → level < j → column_from level j i ≡ Fan level j ∷ []
unfolding column_from
column_of_fan level j i l =
    cond-false (leb j level) (pairs_from level j i (j - i)) (Fan level j ∷ []) (lt-leb j level l)

pub has_pairs : (level j i left : ℕ) (p : Piece) → Has (pairs_from level j i left) p
    → (k : ℕ) × (i ≤ k) × (k < i + left) × (p ≡ Pair level k j)
unfolding pairs_from
has_pairs level j i zero p h = absurd h
has_pairs level j i (suc left) p h = elim h [
  | inl e ↦ (i, omega arith, omega arith, sym e)
  | inr k ↦ let r = has_pairs level j (suc i) left p k in let a = r.1 in let b = r.2 in
      (r.0, omega arith, omega arith, r.3)
]

pub has_column : (level j : ℕ) (p : Piece) → Has (column_from level j 1) p → IsAt level j p
has_column level j p h = elim (cases_lt level j) [
  | inl l ↦ let k : Has (Fan level j ∷ []) p = rw (column_of_fan level j 1 l) at h in
      elim k [ inl e ↦ inr (record { later = l; is = sym e }) | inr n ↦ absurd n ]
  | inr l ↦ let k = rw (column_of_pairs level j 1 l) at h in
      let r = has_pairs level j 1 (j - 1) p k in
      let a = r.1 in let b = r.2 in
      inl (record { i = r.0; first = r.1; less = omega arith; among = l; is = r.3 })
]

pub has_columns : (level j left : ℕ) (p : Piece) → Has (columns_behind level j left) p → IsInColumns level j left p
unfolding columns_behind
has_columns level j zero p h = absurd h
has_columns level j (suc left) p h =
    elim (has_append_cases (column_from level (suc j) 1) (columns_behind level (suc j) left) p h) [
      | inl k ↦ record { column = suc j; behind = omega arith; within = omega arith; at = has_column level (suc j) p k }
      | inr k ↦ let r = has_columns level (suc j) left p k in
          let a = r.behind in let b = r.within in
          record { column = r.column; behind = omega arith; within = omega arith; at = r.at }
    ]

pub level_at : (level j : ℕ) (p : Piece) → IsAt level j p → level_of p ≡ level
level_at level j p a = elim a [ inl q ↦ ap level_of q.is | inr q ↦ ap level_of q.is ]

-- a piece of an earlier column precedes a piece of a later one
columns_precede : (level j k : ℕ) (p r : Piece) → j < k → IsAt level j p → IsAt level k r → ComesBefore p r
columns_precede level j k p r l a b = elim a [
  | inl q ↦ elim b [
    | inl s ↦ rw (q.is, s.is) (inr (refl, inl l))
    | inr s ↦ rw (q.is, s.is) (inr (refl, tt))
  ]
  | inr q ↦ elim b [
    | inl s ↦ let m = s.among in let n = q.later in absurd (omega arith)
    | inr s ↦ rw (q.is, s.is) (inr (refl, l))
  ]
]

ordered_pairs : (level j i left : ℕ) → Ordered ComesBefore (pairs_from level j i left)
unfolding pairs_from
ordered_pairs level j i zero = tt
ordered_pairs level j i (suc left) = (
  all_from_members (ComesBefore (Pair level i j)) (pairs_from level j (suc i) left) (λ p h.
      let r = has_pairs level j (suc i) left p h in
      let l = r.1 in
      let m : i < r.0 = omega arith in
      rw (r.3) (inr (refl, inr (refl, m)))),
  ordered_pairs level j (suc i) left,
)

ordered_column : (level j : ℕ) → Ordered ComesBefore (column_from level j 1)
ordered_column level j = elim (cases_lt level j) [
  | inl l ↦ rw (column_of_fan level j 1 l) (tt, tt)
  | inr l ↦ rw (column_of_pairs level j 1 l) (ordered_pairs level j 1 (j - 1))
]

pub ordered_columns : (level j left : ℕ) → Ordered ComesBefore (columns_behind level j left)
unfolding columns_behind
ordered_columns level j zero = tt
ordered_columns level j (suc left) =
    ordered_append ComesBefore (column_from level (suc j) 1) (columns_behind level (suc j) left)
    (ordered_column level (suc j)) (ordered_columns level (suc j) left) (λ p r h k.
    let a = has_column level (suc j) p h in
    let b = has_columns level (suc j) left r k in
    columns_precede level (suc j) b.column p r b.behind a b.at)

-- each piece in the columns of a group of m members is a piece of Even's test
pub piece_in_columns : (n m level : ℕ) (p : Piece) → 1 ≤ level → level < n → Has (pieces_of_level m level) p
    → IsPieceOf n m p
piece_in_columns n m level p low high h =
    let r = has_columns level 0 m p h in
    let w = r.within in
    elim (r.at) [
      | inl q ↦ rw (q.is) (record {
        high = high;
        first = q.first;
        less = q.less;
        among = q.among;
        member = omega arith;
      })
      | inr q ↦ rw (q.is) (record { low = low; high = high; later = q.later; member = omega arith })
    ]
