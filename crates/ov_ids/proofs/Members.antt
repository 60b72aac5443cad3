-- Members of lists, and lists in order.
use Rattle.std.proofs.Common.{◌≡◌, ℕ, zero, suc, ◌<◌, ◌↔◌, ◌⊎◌, inl, inr, List, [], ◌∷◌, ◌++◌, Bool, true, IsTrue}
use Rattle.std.proofs.Common.{length, get_or, take, eqb, refl, sym, ap, ap₂, ◌∙◌, subst, arith, eq-eqb, eqb-true}
use Rattle.std.proofs.lemmas.Bool.{cases_eq, or_cases, or_left, or_right}
use Rattle.std.specs.List.{AllByRecursion, list_any}
use Rattle.ov_ids.specs.Members.{Has, IsDistinct, Ordered, Ascends}
use Rattle.ov_ids.specs.Sets.{has}

pub has_or_not : (xs : List ℕ) (x : ℕ) → Has xs x ⊎ (¬ Has xs x)
has_or_not [] x = inr (λ h. h)
has_or_not (y ∷ ys) x = grind (arith, cases_eq y x, has_or_not ys x)

pub has_from_any : {X : Type 0} (test : X → Bool) (xs : List X)
    → list_any test xs ≡ true → (x : X) × Has xs x × (test x ≡ true)
has_from_any test [] h = absurd (cc)
has_from_any test (x ∷ xs) h = elim (or_cases (test x) (list_any test xs) h) [
  | inl e ↦ (x, inl refl, e)
  | inr e ↦ let r = has_from_any test xs e in (r.0, inr r.1, r.2)
]

pub any_from_has : {X : Type 0} (test : X → Bool) (xs : List X) (x : X)
    → Has xs x → test x ≡ true → list_any test xs ≡ true
any_from_has test [] x h e = absurd h
any_from_has test (y ∷ ys) x h e = elim h [
  | inl s ↦ or_left (test y) (list_any test ys) (ap test s ∙ e)
  | inr k ↦ or_right (test y) (list_any test ys) (any_from_has test ys x k e)
]

-- the test `has` agrees with the relation `Has`
pub has_tested : (xs : List ℕ) (x : ℕ) (b : Bool) → b ≡ has xs x → IsTrue b ↔ Has xs x
has_tested xs x b e = (
  (λ t. let r = has_from_any (λ (y : ℕ). eqb y x) xs (sym e ∙ t) in subst (Has xs) (eqb-true r.0 x r.2) r.1),
  (λ h. e ∙ any_from_has (λ (y : ℕ). eqb y x) xs x h (eq-eqb x x refl)),
)

pub has_append_left : {X : Type 0} (xs ys : List X) (x : X) → Has xs x → Has (xs ++ ys) x
has_append_left [] ys x h = absurd h
has_append_left (z ∷ xs) ys x h = elim h [ inl e ↦ inl e | inr k ↦ inr (has_append_left xs ys x k) ]

pub has_append_right : {X : Type 0} (xs ys : List X) (x : X) → Has ys x → Has (xs ++ ys) x
has_append_right [] ys x h = h
has_append_right (z ∷ xs) ys x h = inr (has_append_right xs ys x h)

pub has_append_cases : {X : Type 0} (xs ys : List X) (x : X) → Has (xs ++ ys) x → Has xs x ⊎ Has ys x
has_append_cases [] ys x h = inr h
has_append_cases (z ∷ xs) ys x h =
    elim h [ inl e ↦ inl (inl e) | inr k ↦ elim (has_append_cases xs ys x k) [ inl m ↦ inl (inr m) | inr m ↦ inr m ] ]

pub has_place : {X : Type 0} (xs : List X) (i : ℕ) (d : X) → i < length xs → Has xs (get_or xs i d)
has_place [] i d l = absurd (omega arith)
has_place (x ∷ xs) zero d l = inl refl
has_place (x ∷ xs) (suc i) d l = inr (has_place xs i d (omega arith))

pub place_of : (xs : List ℕ) (x : ℕ) → Has xs x → (i : ℕ) × (i < length xs) × (get_or xs i 0 ≡ x)
place_of [] x h = absurd h
place_of (y ∷ ys) x h =
    elim h [ inl e ↦ (0, omega arith, e) | inr k ↦ let r = place_of ys x k in (suc r.0, omega (arith, r.1), r.2) ]

pub has_take : (xs : List ℕ) (k i : ℕ) → i < k → i < length xs → Has (take k xs) (get_or xs i 0)
has_take xs zero i l m = absurd (omega arith)
has_take [] (suc k) i l m = absurd (omega arith)
has_take (x ∷ xs) (suc k) zero l m = inl refl
has_take (x ∷ xs) (suc k) (suc i) l m = inr (has_take xs k i (omega arith) (omega arith))

pub place_in_take : (xs : List ℕ) (k x : ℕ)
    → Has (take k xs) x → (i : ℕ) × (i < k) × (i < length xs) × (get_or xs i 0 ≡ x)
place_in_take xs zero x h = absurd h
place_in_take [] (suc k) x h = absurd h
place_in_take (y ∷ ys) (suc k) x h =
    elim h [
      | inl e ↦ (0, omega arith, omega arith, e)
      | inr m ↦ let r = place_in_take ys k x m in (suc r.0, omega (arith, r.1), omega (arith, r.2), r.3)
    ]

pub has_from_take : (xs : List ℕ) (k x : ℕ) → Has (take k xs) x → Has xs x
has_from_take xs zero x h = absurd h
has_from_take [] (suc k) x h = absurd h
has_from_take (y ∷ ys) (suc k) x h = elim h [ inl e ↦ inl e | inr m ↦ inr (has_from_take ys k x m) ]

-- what holds of all holds of each member
pub all_member : {X : Type 0} (P : X → Type 0) (xs : List X) (x : X) → AllByRecursion P xs → Has xs x → P x
all_member P [] x all h = absurd h
all_member P (y ∷ ys) x all h = elim h [ inl e ↦ subst P e all.0 | inr k ↦ all_member P ys x all.1 k ]

-- what holds of each member holds of all
pub all_from_members : {X : Type 0} (P : X → Type 0) (xs : List X) → ((x : X) → Has xs x → P x) → AllByRecursion P xs
all_from_members P [] each = tt
all_from_members P (y ∷ ys) each = (each y (inl refl), all_from_members P ys (λ x h. each x (inr h)))

-- an earlier item stands in the relation to a later one
pub ordered_at : {X : Type 0} (R : X → X → Type 0) (xs : List X) (i j : ℕ) (d : X)
    → Ordered R xs → i < j → j < length xs → R (get_or xs i d) (get_or xs j d)
ordered_at R [] i j d up l m = absurd (omega arith)
ordered_at R (x ∷ xs) i zero d up l m = absurd (omega arith)
ordered_at R (x ∷ xs) zero (suc j) d up l m = all_member (R x) xs (get_or xs j d) up.0 (has_place xs j d (omega arith))
ordered_at R (x ∷ xs) (suc i) (suc j) d up l m = ordered_at R xs i j d up.1 (omega arith) (omega arith)

-- an ascending list has no id twice
pub ascends_distinct : (xs : List ℕ) → Ascends xs → IsDistinct xs
ascends_distinct [] up = tt
ascends_distinct (x ∷ xs) up =
    ((λ h. let l : x < x = all_member (λ y. x < y) xs x up.0 h in absurd (omega arith)), ascends_distinct xs up.1)

-- two lists with the same members, both in one asymmetric order, are equal
pub same_ordered : {X : Type 0} (R : X → X → Type 0) → ((x y : X) → R x y → R y x → ⊥) → (xs ys : List X)
    → Ordered R xs → Ordered R ys → ((x : X) → Has xs x → Has ys x) → ((x : X) → Has ys x → Has xs x) → xs ≡ ys
same_ordered R one [] [] f g to from = refl
same_ordered R one [] (y ∷ ys) f g to from = absurd (from y (inl refl))
same_ordered R one (x ∷ xs) [] f g to from = absurd (to x (inl refl))
same_ordered {X} R one (x ∷ xs) (y ∷ ys) f g to from =
    let heads : x ≡ y = elim (to x (inl refl)) [
      | inl e ↦ sym e
      | inr h ↦ elim (from y (inl refl)) [
        | inl e ↦ e
        | inr k ↦ absurd (one x y (all_member (R x) xs y f.0 k) (all_member (R y) ys x g.0 h))
      ]
    ] in
    let later : (z : X) → R x z → x ≡ z → ⊥ = λ z r e. let s : R x x = subst (R x) (sym e) r in one x x s s in
    let rest = same_ordered R one xs ys f.1 g.1
    (λ z h. elim (to z (inr h)) [ inl e ↦ absurd (later z (all_member (R x) xs z f.0 h) (heads ∙ e)) | inr k ↦ k ])
    (λ z h. elim (from z (inr h)) [
      | inl e ↦ absurd (later z (subst (λ (w : X). R w z) (sym heads) (all_member (R y) ys z g.0 h)) e)
      | inr k ↦ k
    ]) in
    ap₂ (λ (a : X) (l : List X). a ∷ l) heads rest

-- ascending lists with the same members are equal
pub same_ascending : (xs ys : List ℕ) → Ascends xs → Ascends ys
    → ((x : ℕ) → Has xs x → Has ys x) → ((x : ℕ) → Has ys x → Has xs x) → xs ≡ ys
same_ascending xs ys f g to from = same_ordered (λ x y. x < y) (λ x y l m. omega arith) xs ys f g to from
