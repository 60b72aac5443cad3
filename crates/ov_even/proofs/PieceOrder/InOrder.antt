-- The items of a list by place, of two lists put together, and of an ordered list.
use Rattle.std.proofs.Common.{◌≡◌, ℕ, zero, suc, ◌+◌, ◌<◌, inl, inr, List, [], ◌∷◌, ◌++◌, length, Some, refl, ap, arith}
use Rattle.std.specs.List.{slice_get}
use Rattle.ov_ids.specs.Members.{Has, Ordered}
use Rattle.ov_ids.proofs.Members.{all_member}

-- the item at a place is a member
pub has_at : {X : Type 0} (xs : List X) (i : ℕ) (x : X) → slice_get xs i ≡ Some x → Has xs x
has_at [] i x e = absurd (cc)
has_at (y ∷ ys) zero x e = let s : y ≡ x = cc in inl s
has_at (y ∷ ys) (suc i) x e = inr (has_at ys i x e)

-- a member has a place
pub at_has : {X : Type 0} (xs : List X) (x : X) → Has xs x → (i : ℕ) × (slice_get xs i ≡ Some x)
at_has [] x h = absurd h
at_has (y ∷ ys) x h = elim h [ inl e ↦ (0, ap Some e) | inr k ↦ let r = at_has ys x k in (suc r.0, r.1) ]

-- the places of the first list keep their items
pub at_left : {X : Type 0} (xs ys : List X) (i : ℕ) → i < length xs → slice_get (xs ++ ys) i ≡ slice_get xs i
at_left [] ys i l = absurd (omega arith)
at_left (x ∷ xs) ys zero l = refl
at_left (x ∷ xs) ys (suc i) l = at_left xs ys i (omega arith)

-- the places of the second list come after those of the first
pub at_right : {X : Type 0} (xs ys : List X) (i j : ℕ) → i ≡ length xs + j → slice_get (xs ++ ys) i ≡ slice_get ys j
at_right [] ys i j e = let s : i ≡ j = omega arith in ap (slice_get ys) s
at_right (x ∷ xs) ys zero j e = absurd (omega arith)
at_right (x ∷ xs) ys (suc i) j e = at_right xs ys i j (omega arith)

-- each place within a list has an item
pub at_within : {X : Type 0} (xs : List X) (i : ℕ) → i < length xs → (x : X) × (slice_get xs i ≡ Some x)
at_within [] i l = absurd (omega arith)
at_within (x ∷ xs) zero l = (x, refl)
at_within (x ∷ xs) (suc i) l = at_within xs i (omega arith)

-- an item at an earlier place precedes an item at a later place
pub ordered_places : {X : Type 0} (R : X → X → Type 0) (xs : List X) (i j : ℕ) (x y : X) → Ordered R xs → i < j
    → slice_get xs i ≡ Some x → slice_get xs j ≡ Some y → R x y
ordered_places R [] i j x y up l e f = absurd (cc)
ordered_places R (z ∷ zs) i zero x y up l e f = absurd (omega arith)
ordered_places {X} R (z ∷ zs) zero (suc j) x y up l e f =
    let s : z ≡ x = cc in let r = all_member (R z) zs y up.0 (has_at zs j y f) in rw s at r
ordered_places R (z ∷ zs) (suc i) (suc j) x y up l e f = ordered_places R zs i j x y up.1 (omega arith) e f
