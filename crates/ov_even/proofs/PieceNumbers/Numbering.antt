-- The numbers of pieces: each piece has one number, each number has one piece, and numbers follow the order of pieces.
use Rattle.std.proofs.Common.{◌≡◌, ◌↔◌, ℕ, ◌<◌, inl, inr, List, length, Some, refl, sym, ap, ◌∙◌, subst, arith}
use Rattle.std.proofs.lemmas.Bool.{cases_eq, cases_lt}
use Rattle.std.proofs.lemmas.Option.{slice_get_within}
use Rattle.std.specs.List.{slice_get}
use Rattle.ov_ids.specs.Members.{Ordered}
use Rattle.ov_ids.proofs.Members.{same_ordered}
use Rattle.ov_fans.specs.declared.piece.Piece.{Piece}
use Rattle.ov_fans.specs.Pieces.{IsPieceOf}
use Rattle.ov_even.specs.Order.{ComesBefore, AreAllPieces, IsNumbered, AreSoMany, AreMoreThan}
use Rattle.ov_even.specs.Code.Levels.{all_pieces}
use Rattle.ov_even.proofs.PieceOrder.InOrder.{at_has, has_at, ordered_places}
use Rattle.ov_even.proofs.PieceNumbers.AllLevels.{all_listed}
use Rattle.ov_even.proofs.PieceOrder.Ordering.{not_both_before}

-- there is only one list of all pieces
pub one_list : (n m : ℕ) (xs ys : List Piece) → AreAllPieces n m xs → AreAllPieces n m ys → xs ≡ ys
one_list n m xs ys a b = same_ordered ComesBefore not_both_before xs ys a.order b.order
    (λ p h. (b.each p).1 ((a.each p).0 h)) (λ p h. (a.each p).1 ((b.each p).0 h))

pub listed_is : (n m : ℕ) (xs : List Piece) → AreAllPieces n m xs → xs ≡ all_pieces n m
listed_is n m xs a = one_list n m xs (all_pieces n m) a (all_listed n m)

-- the piece of a number stands at that place in the list of all pieces
pub numbered_there : (n m x : ℕ) (p : Piece) → IsNumbered n m x p → slice_get (all_pieces n m) x ≡ Some p
numbered_there n m x p a = rw (listed_is n m a.pieces a.all) at a.there

pub there_numbered : (n m x : ℕ) (p : Piece) → slice_get (all_pieces n m) x ≡ Some p → IsNumbered n m x p
there_numbered n m x p e = record { pieces = all_pieces n m; all = all_listed n m; there = e }

-- the number of pieces is the length of the list of all pieces
pub so_many : (n m : ℕ) → AreSoMany n m (length (all_pieces n m))
so_many n m = record { pieces = all_pieces n m; all = all_listed n m; count = refl }

pub one_total : (n m s t : ℕ) → AreSoMany n m s → AreSoMany n m t → s ≡ t
one_total n m s t a b = sym a.count ∙ ap length (one_list n m a.pieces b.pieces a.all b.all) ∙ b.count

-- the number of a piece is below the total; so is a number if there are more pieces than that
pub number_below : (n m x t : ℕ) (p : Piece) → IsNumbered n m x p → AreSoMany n m t → x < t
number_below n m x t p a b =
    let l = slice_get_within (all_pieces n m) x p (numbered_there n m x p a) in
    let e = one_total n m (length (all_pieces n m)) t (so_many n m) b in
    omega (arith, l, e)

pub more_than : (n m x : ℕ) → AreMoreThan n m x → x < length (all_pieces n m)
more_than n m x a = a (length (all_pieces n m)) (so_many n m)

-- each number below the total is the number of a piece
pub more_from_total : (n m x t : ℕ) → AreSoMany n m t → x < t → AreMoreThan n m x
more_from_total n m x t a l s b = let e = one_total n m t s a b in omega arith

-- a number belongs to one piece
pub one_piece : (n m x : ℕ) (p r : Piece) → IsNumbered n m x p → IsNumbered n m x r → p ≡ r
one_piece n m x p r a b =
    let e = sym (numbered_there n m x p a) ∙ numbered_there n m x r b in cc

-- each piece has a number, and whatever has a number is a piece
pub every_number : (n m : ℕ) (p : Piece) → IsPieceOf n m p → (x : ℕ) × IsNumbered n m x p
every_number n m p is =
    let r = at_has (all_pieces n m) p (((all_listed n m).each p).1 is) in
    (r.0, there_numbered n m r.0 p r.1)

pub numbered_piece : (n m x : ℕ) (p : Piece) → IsNumbered n m x p → IsPieceOf n m p
numbered_piece n m x p a = (a.all.each p).0 (has_at a.pieces x p a.there)

-- the lower of two numbers belongs to the earlier piece
pub numbers_order : (n m x y : ℕ) (p r : Piece) → IsNumbered n m x p → IsNumbered n m y r → (x < y) ↔ ComesBefore p r
numbers_order n m x y p r a b =
    let e = numbered_there n m x p a in
    let f = numbered_there n m y r b in
    let up : Ordered ComesBefore (all_pieces n m) = (all_listed n m).order in (
      (λ l. ordered_places ComesBefore (all_pieces n m) x y p r up l e f),
      (λ before. elim (cases_lt x y) [
        | inl l ↦ l
        | inr l ↦ elim (cases_eq x y) [
          | inl s ↦
              let t : p ≡ r = one_piece n m x p r a (subst (λ (z : ℕ). IsNumbered n m z r) (sym s) b) in
              let u : ComesBefore p p = subst (ComesBefore p) (sym t) before in
              absurd (not_both_before p p u u)
          | inr d ↦
              absurd (not_both_before p r before
              (ordered_places ComesBefore (all_pieces n m) y x r p up (omega arith) f e))
        ]
      ]),
    )

-- a piece has one number only
pub one_number : (n m x y : ℕ) (p : Piece) → IsNumbered n m x p → IsNumbered n m y p → x ≡ y
one_number n m x y p a b =
    let none : ComesBefore p p → ⊥ = λ u. not_both_before p p u u in
    elim (cases_lt x y) [
      | inl l ↦ absurd (none ((numbers_order n m x y p p a b).0 l))
      | inr l ↦ elim (cases_eq x y) [
        | inl s ↦ s
        | inr d ↦ absurd (none ((numbers_order n m y x p p b a).0 (omega arith)))
      ]
    ]
