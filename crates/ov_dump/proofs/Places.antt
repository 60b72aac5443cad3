-- An item of a list, with those before it and those behind it.
use Rattle.std.proofs.Common.{◌≡◌, ◌∙◌, ◌<◌, ◌≤◌, ◌+◌, List, [], ◌∷◌, ◌++◌, ℕ, zero, suc, sym, ap, arith, refl, length}
use Rattle.std.proofs.Common.{get_or, take, drop, slice_get, Some, ◌⊎◌, inl, inr, unwrap_or, IfNone, None, Option}
use Rattle.std.proofs.Common.{subst}
use Rattle.std.proofs.lemmas.List.{take_more}
use Rattle.ov_ids.specs.Members.{Has, Ordered}
use Rattle.std.specs.List.{AllByRecursion, Contains}
use Rattle.ov_ids.proofs.Members.{has_place}

-- a list is the items before a place, the item at it, and those behind it
pub parted : {X : Type 0} (xs : List X) (i : ℕ) (d : X) → i < length xs
    → xs ≡ take i xs ++ get_or xs i d ∷ drop (suc i) xs
parted [] i d l = absurd (omega arith)
parted (x ∷ xs) zero d l = refl
parted (x ∷ xs) (suc i) d l = ap (λ ys. x ∷ ys) (parted xs i d (omega arith))

-- the same, with the item that a loop has
pub parted_at : {X : Type 0} (xs : List X) (i : ℕ) (x : X) → i < length xs → x ≡ get_or xs i x
    → xs ≡ take i xs ++ x ∷ drop (suc i) xs
parted_at xs i x l is = parted xs i x l ∙ ap (λ y. take i xs ++ y ∷ drop (suc i) xs) (sym is)

-- the items before the next place are those before a place, and then the item at it
pub taken_next : {X : Type 0} (xs : List X) (i : ℕ) (x : X) → i < length xs → x ≡ get_or xs i x
    → take (i + 1) xs ≡ take i xs ++ x ∷ []
taken_next xs i x l is = take_more xs i x l ∙ ap (λ y. take i xs ++ y ∷ []) (sym is)

-- of a list in order, one more item to which each is related
pub ordered_more : {X : Type 0} (R : X → X → Type 0) (xs : List X) (y : X) → Ordered R xs
    → ((x : X) → Has xs x → R x y) → Ordered R (xs ++ y ∷ [])
ordered_more R [] y up each = (tt, tt)
ordered_more R (x ∷ xs) y up each =
    (all_more (R x) xs y up.0 (each x (inl refl)), ordered_more R xs y up.1 (λ z h. each z (inr h)))
  where
    all_more : {X : Type 0} (P : X → Type 0) (xs : List X) (y : X) → AllByRecursion P xs → P y
        → AllByRecursion P (xs ++ y ∷ [])
    all_more P [] y all p = (p, tt)
    all_more P (x ∷ xs) y all p = (all.0, all_more P xs y all.1 p)

-- what is at a place is a member, and a member has a place
pub member_at : {X : Type 0} (xs : List X) (p : ℕ) (x : X) → slice_get xs p ≡ Some x → Has xs x
member_at [] p x e = absurd (cc)
member_at (y ∷ ys) zero x e = inl (ap (λ o. unwrap_or o x) e)
member_at (y ∷ ys) (suc p) x e = inr (member_at ys p x e)

pub place_of : {X : Type 0} (xs : List X) (x : X) → Has xs x → (p : ℕ) × (slice_get xs p ≡ Some x)
place_of [] x h = absurd h
place_of (y ∷ ys) x h =
    elim h [ inl e ↦ (zero, ap Some e) | inr k ↦ let r = place_of ys x k in (suc r.0, r.1) ]

-- a place with an item is within the list
pub within : {X : Type 0} (xs : List X) (p : ℕ) (x : X) → slice_get xs p ≡ Some x → p < length xs
within [] p x e = absurd (cc)
within (y ∷ ys) zero x e = omega arith
within (y ∷ ys) (suc p) x e = let l = within ys p x e in omega (arith, l)

-- what holds if there is no value, where there is none
pub none_given : {X : Type 0} (r : Option X) (P : Type 0) → IfNone r P → ((x : X) → ¬ (r ≡ Some x)) → P
none_given None P holds not = holds
none_given (Some x) P holds not = absurd (not x refl)

-- one number is below another, or not
pub cases_lt : (a b : ℕ) → (a < b) ⊎ (b ≤ a)
cases_lt a zero = inr (omega arith)
cases_lt zero (suc b) = inl (omega arith)
cases_lt (suc a) (suc b) = elim (cases_lt a b) [ inl l ↦ inl (omega (arith, l)) | inr l ↦ inr (omega (arith, l)) ]

-- a member of a list, as std says it
pub contained : {X : Type 0} (xs : List X) (x : X) → Has xs x → Contains xs x
contained [] x h = absurd h
contained (y ∷ ys) x h = elim h [
  | inl e ↦ (zero, omega arith, e)
  | inr k ↦ let r = contained ys x k in let low = r.1 in (suc r.0, omega (arith, low), r.2)
]

pub is_member : {X : Type 0} (xs : List X) (x : X) → Contains xs x → Has xs x
is_member xs x c = subst (Has xs) c.2 (has_place xs c.0 x c.1)
