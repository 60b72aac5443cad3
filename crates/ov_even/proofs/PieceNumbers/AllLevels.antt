-- The lists of all levels, one after another, are the list of all pieces in their order.
use Rattle.std.proofs.Common.{◌≡◌, ◌↔◌, ℕ, zero, suc, ◌+◌, ◌-◌, ◌<◌, ◌≤◌, inl, inr, List, ◌++◌, length}
use Rattle.std.proofs.Common.{sym, ap, ◌∙◌, subst, arith, append_assoc}
use Rattle.std.proofs.lemmas.Bool.{cases_eq, cases_lt}
use Rattle.std.proofs.lemmas.List.{length-append}
use Rattle.std.specs.List.{slice_get}
use Rattle.ov_ids.specs.Members.{Has, Ordered}
use Rattle.ov_ids.proofs.Members.{has_append_left, has_append_right, has_append_cases}
use Rattle.ov_fans.specs.Pieces.{level_of}
use Rattle.ov_fans.specs.declared.piece.Piece.{Piece}
use Rattle.ov_fans.specs.declared.piece.Piece.TheVariants.{Pair, Fan}
use Rattle.ov_even.specs.Order.{ComesBefore, AreAllPieces}
use Rattle.ov_fans.specs.Pieces.{IsPieceOf}
use Rattle.ov_even.specs.Code.Levels.{pieces_of_level, levels_behind, all_pieces}
use Rattle.ov_cert.proofs.EntryOrder.Columns.{ordered_append}
use Rattle.ov_even.proofs.PieceOrder.InOrder.{has_at, at_left, at_right}
use Rattle.ov_even.proofs.PieceOrder.Columns.{has_columns, level_at, ordered_columns, piece_in_columns}
use Rattle.ov_even.proofs.PieceNumbers.LevelPlaces.{pair_placed, fan_placed}
use Rattle.ov_even.proofs.PieceOrder.PieceLevels.{level_from, level_to}

-- a piece is in the list of its level
pub piece_has : (n m : ℕ) (p : Piece) → IsPieceOf n m p → Has (pieces_of_level m (level_of p)) p
piece_has n m (Pair level i j) is = has_at (pieces_of_level m level) _ (Pair level i j)
    (pair_placed m level i j is.first is.less is.among is.member)
piece_has n m (Fan level j) is =
    has_at (pieces_of_level m level) _ (Fan level j) (fan_placed m level j is.later is.member)

pub level_in : (m level : ℕ) (p : Piece) → Has (pieces_of_level m level) p → level_of p ≡ level
level_in m level p h = let r = has_columns level 0 m p h in level_at level r.column p r.at

-- the list of a level has exactly the pieces of the level
pub level_has : (n m level : ℕ) (p : Piece) → 1 ≤ level → level < n
    → Has (pieces_of_level m level) p ↔ (IsPieceOf n m p × (level_of p ≡ level))
level_has n m level p low high = (
  (λ h. (piece_in_columns n m level p low high h, level_in m level p h)),
  (λ r. subst (λ (x : ℕ). Has (pieces_of_level m x) p) r.1 (piece_has n m p r.0)),
)

-- the pieces of a level are in order
pub level_ordered : (m level : ℕ) → Ordered ComesBefore (pieces_of_level m level)
level_ordered m level = ordered_columns level 0 m

-- the piece is on one of this many levels after this one
pub record IsInLevels (m level left : ℕ) (p : Piece) : Type 0 where
  pub at : ℕ
  pub behind : level < at
  pub within : at ≤ level + left
  pub has : Has (pieces_of_level m at) p

pub has_levels : (m level left : ℕ) (p : Piece) → Has (levels_behind m level left) p → IsInLevels m level left p
unfolding levels_behind
has_levels m level zero p h = absurd h
has_levels m level (suc left) p h =
    elim (has_append_cases (pieces_of_level m (suc level)) (levels_behind m (suc level) left) p h) [
      | inl k ↦ record { at = suc level; behind = omega arith; within = omega arith; has = k }
      | inr k ↦ let r = has_levels m (suc level) left p k in
          let a = r.behind in let b = r.within in
          record { at = r.at; behind = omega arith; within = omega arith; has = r.has }
    ]

pub in_levels : (m level left at : ℕ) (p : Piece) → level < at → at ≤ level + left → Has (pieces_of_level m at) p
    → Has (levels_behind m level left) p
unfolding levels_behind
in_levels m level zero at p behind within h = absurd (omega arith)
in_levels m level (suc left) at p behind within h = elim (cases_eq (suc level) at) [
  | inl e ↦ has_append_left (pieces_of_level m (suc level)) (levels_behind m (suc level) left) p
      (subst (λ (x : ℕ). Has (pieces_of_level m x) p) (sym e) h)
  | inr d ↦ has_append_right (pieces_of_level m (suc level)) (levels_behind m (suc level) left) p
      (in_levels m (suc level) left at p (omega arith) (omega arith) h)
]

-- a number of levels is split into two parts
pub levels_split : (m level a b : ℕ)
    → levels_behind m level (a + b) ≡ levels_behind m level a ++ levels_behind m (level + a) b
unfolding levels_behind
levels_split m level zero b =
    let e : level ≡ level + 0 = omega arith in
    let f : 0 + b ≡ b = omega arith in
    ap (levels_behind m level) f ∙ ap (λ (x : ℕ). levels_behind m x b) e
levels_split m level (suc a) b =
    let e : suc a + b ≡ suc (a + b) = omega arith in
    let f : suc level + a ≡ level + suc a = omega arith in
    let first = pieces_of_level m (suc level) in
    ap (levels_behind m level) e ∙ ap (λ (xs : List Piece). first ++ xs) (levels_split m (suc level) a b)
    ∙ ap (λ (x : ℕ). first ++ (levels_behind m (suc level) a ++ levels_behind m x b)) f
    ∙ sym (append_assoc first (levels_behind m (suc level) a) (levels_behind m (level + suc a) b))

ordered_levels : (m level left : ℕ) → Ordered ComesBefore (levels_behind m level left)
unfolding levels_behind
ordered_levels m level zero = tt
ordered_levels m level (suc left) =
    ordered_append ComesBefore (pieces_of_level m (suc level)) (levels_behind m (suc level) left)
    (ordered_columns (suc level) 0 m) (ordered_levels m (suc level) left) (λ p r h k.
    let e = level_in m (suc level) p h in
    let b = has_levels m (suc level) left r k in
    let f = level_in m b.at r b.has in
    let l = b.behind in
    let less : level_of p < level_of r = omega (arith, e, f) in
    inl less)

-- the list of all levels is the list of all pieces
pub all_listed : (n m : ℕ) → AreAllPieces n m (all_pieces n m)
all_listed n m = record {
  order = ordered_levels m 0 (n - 1);
  each = λ p. (
    (λ h. let r = has_levels m 0 (n - 1) p h in let a = r.behind in let b = r.within in
        piece_in_columns n m r.at p (omega arith) (omega arith) r.has),
    (λ is. let a = level_from n m p is in let b = level_to n m p is in
        in_levels m 0 (n - 1) (level_of p) p (omega arith) (omega arith) (piece_has n m p is)),
  );
}

-- the levels still left are the next level and those after it
pub level_ahead : (n m level : ℕ) → 1 ≤ level → level < n
    → levels_behind m (level - 1) (n - level)
    ≡ pieces_of_level m level ++ levels_behind m (level + 1 - 1) (n - (level + 1))
unfolding levels_behind
level_ahead n m level low high =
    let e : n - level ≡ suc (n - (level + 1)) = omega arith in
    let f : suc (level - 1) ≡ level = omega arith in
    let g : level ≡ level + 1 - 1 = omega arith in
    ap (levels_behind m (level - 1)) e
    ∙ ap (λ (x : ℕ). pieces_of_level m x ++ levels_behind m x (n - (level + 1))) f
    ∙ ap (λ (x : ℕ). pieces_of_level m level ++ levels_behind m x (n - (level + 1))) g

-- if a place is within the pieces still left, a level is left
pub level_left : (n m level place : ℕ) → place < length (levels_behind m (level - 1) (n - level)) → level < n
unfolding levels_behind
level_left n m level place l = elim (cases_lt level n) [
  | inl k ↦ k
  | inr k ↦
      let e : n - level ≡ 0 = omega arith in
      let f = ap (λ (x : ℕ). length (levels_behind m (level - 1) x)) e in
      absurd (omega (arith, f))
]

-- the number of pieces still left: those of the next level, and those after it
pub length_ahead : (n m level : ℕ) → 1 ≤ level → level < n
    → length (levels_behind m (level - 1) (n - level))
    ≡ length (pieces_of_level m level) + length (levels_behind m (level + 1 - 1) (n - (level + 1)))
length_ahead n m level low high =
    ap length (level_ahead n m level low high)
    ∙ length-append (pieces_of_level m level) (levels_behind m (level + 1 - 1) (n - (level + 1)))

-- the item at a place within the next level
pub place_ahead : (n m level place : ℕ) → 1 ≤ level → level < n → place < length (pieces_of_level m level)
    → slice_get (levels_behind m (level - 1) (n - level)) place ≡ slice_get (pieces_of_level m level) place
place_ahead n m level place low high l =
    ap (λ (xs : List Piece). slice_get xs place) (level_ahead n m level low high)
    ∙ at_left (pieces_of_level m level) (levels_behind m (level + 1 - 1) (n - (level + 1))) place l

-- the item at a place after the next level
pub place_behind : (n m level place : ℕ) → 1 ≤ level → level < n → length (pieces_of_level m level) ≤ place
    → slice_get (levels_behind m (level - 1) (n - level)) place
    ≡ slice_get (levels_behind m (level + 1 - 1) (n - (level + 1))) (place - length (pieces_of_level m level))
place_behind n m level place low high l =
    ap (λ (xs : List Piece). slice_get xs place) (level_ahead n m level low high)
    ∙ at_right (pieces_of_level m level) (levels_behind m (level + 1 - 1) (n - (level + 1))) place
    (place - length (pieces_of_level m level)) (omega arith)
