-- The members of a set after a change, and their places.
use Rattle.std.proofs.Common.{subst, ap, zero, ◌≡◌, ◌≢◌, ◌↔◌, ℕ, suc, ◌<◌, ◌≤◌, ◌+◌, Bool, true, false, cond, not}
use Rattle.std.proofs.Common.{IsTrue, ◌||◌, ◌&&◌, eqb, ltb, List, [], ◌∷◌, length, get_or, refl, inl, inr, sym, ◌∙◌}
use Rattle.std.proofs.Common.{◌-◌, ◌⊎◌, arith}
use Rattle.std.specs.Prelude.{Some, insert, remove, slice_get, slice_index, if◌then◌else◌}
use Rattle.std.specs.List.{AllByRecursion}
use Rattle.std.proofs.lemmas.Bool.{and_parts, not-true, or_cases, or_left, or_right, ltb-true, ltb-false, lt-ltb}
use Rattle.std.proofs.lemmas.Bool.{le-ltb, eq-eqb, ne_eqb, eqb-false, eqb-true, or_parts, cases_order, both_ways}
use Rattle.std.proofs.lemmas.Option.{same_Some, slice_get-get_or}
use Rattle.ov_ids.specs.Sets.{IsSet, has, IsIn, adding, without, count_below, IsPlaceFor}

All-map : (P Q : ℕ → Type 0) → ((y : ℕ) → P y → Q y) → (t : List ℕ) → AllByRecursion P t → AllByRecursion Q t
All-map P Q f [] a = tt
All-map P Q f (y ∷ t) a = (f y a.0, All-map P Q f t a.1)

All-adding : (P : ℕ → Type 0) (x : ℕ) (t : List ℕ) → P x → AllByRecursion P t → AllByRecursion P (adding x t)
All-adding P x [] p a = (p, tt)
All-adding P x (y ∷ t) p a =
    elim (ltb x y) as (λ b. AllByRecursion P (cond b (x ∷ y ∷ t) (y ∷ cond (ltb y x) (adding x t) t))) [
      | true ↦ (p, a)
      | false ↦ (
        a.0,
        elim (ltb y x) as (λ b. AllByRecursion P (cond b (adding x t) t)) [
          | true ↦ All-adding P x t p a.1
          | false ↦ a.1
        ],
      )
    ]

IsSet-adding_cases : (x y : ℕ) (t : List ℕ) (a b : Bool)
    → ltb x y ≡ a → ltb y x ≡ b → IsSet (y ∷ t) → IsSet (adding x t)
    → IsSet (cond a (x ∷ y ∷ t) (y ∷ cond b (adding x t) t))
IsSet-adding_cases x y t true b p q s u =
    let h : x < y = ltb-true x y p in
    ((h, All-map (λ z. y < z) (λ z. x < z) (λ z r. omega arith) t s.0), s)
IsSet-adding_cases x y t false true p q s u = (All-adding (λ z. y < z) x t (ltb-true y x q) s.0, u)
IsSet-adding_cases x y t false false p q s u = s

pub IsSet-adding : (x : ℕ) (t : List ℕ) → IsSet t → IsSet (adding x t)
IsSet-adding x [] s = (tt, tt)
IsSet-adding x (y ∷ t) s = IsSet-adding_cases x y t (ltb x y) (ltb y x) refl refl s (IsSet-adding x t s.1)

All-without : (P : ℕ → Type 0) (x : ℕ) (t : List ℕ) → AllByRecursion P t → AllByRecursion P (without x t)
All-without P x [] a = tt
All-without P x (y ∷ t) a =
    elim (eqb y x) as (λ b. AllByRecursion P (cond (not b) (y ∷ without x t) (without x t))) [
      | true ↦ All-without P x t a.1
      | false ↦ (a.0, All-without P x t a.1)
    ]

pub IsSet-without : (x : ℕ) (t : List ℕ) → IsSet t → IsSet (without x t)
IsSet-without x [] s = tt
IsSet-without x (y ∷ t) s =
    elim (eqb y x) as (λ b. IsSet (cond (not b) (y ∷ without x t) (without x t))) [
      | true ↦ IsSet-without x t s.1
      | false ↦ (All-without (λ z. y < z) x t s.0, IsSet-without x t s.1)
    ]

-- the first member is below x, or it is not
count_below_cases : (x y : ℕ) (t : List ℕ) (P : ℕ → Type 0)
    → (y < x → P (suc (count_below x t))) → (x ≤ y → P 0) → P (count_below x (y ∷ t))
count_below_cases x y t P below above =
    elim (ltb y x) as (λ b. ltb y x ≡ b → P (cond b (suc (count_below x t)) 0)) [
      | true ↦ λ e. below (ltb-true y x e)
      | false ↦ λ e. above (ltb-false y x e)
    ] refl

pub count_below-le-length : (x : ℕ) (t : List ℕ) → count_below x t ≤ length t
count_below-le-length x [] = omega arith
count_below-le-length x (y ∷ t) =
    count_below_cases x y t (λ i. i ≤ suc (length t)) (λ _. omega (arith, count_below-le-length x t)) (λ _. omega arith)

below_more : (x y : ℕ) (t : List ℕ) (n : ℕ) → y < x → ((i : ℕ) → i < n → slice_index t i < x)
    → (i : ℕ) → i < suc n → slice_index (y ∷ t) i < x
below_more x y t n first more zero l = first
below_more x y t n first more (suc i) l = more i (omega (arith, l))

-- so many ids stand before the place for x
place_counted : (x : ℕ) (t : List ℕ) → IsPlaceFor t x (count_below x t)
place_counted x [] = record {
  within = omega arith;
  below = λ i l. absurd (omega (arith, l));
  reached = λ l. absurd (omega (arith, l));
}
place_counted x (y ∷ t) =
    count_below_cases x y t (λ i. IsPlaceFor (y ∷ t) x i)
    (λ first. let rest = place_counted x t in record {
      within = omega (arith, rest.within);
      below = below_more x y t (count_below x t) first rest.below;
      reached = λ l. rest.reached (omega (arith, l));
    })
    (λ reached. record { within = omega arith; below = λ i l. absurd (omega (arith, l)); reached = λ l. reached })

pub place_found : (xs : List ℕ) (x p : ℕ) → p ≡ count_below x xs → IsPlaceFor xs x p
place_found xs x p e = subst (IsPlaceFor xs x) (sym e) (place_counted x xs)

pub has_past_end : (x : ℕ) (t : List ℕ) → length t ≤ count_below x t → has t x ≡ false
has_past_end x [] p = refl
has_past_end x (y ∷ t) p =
    count_below_cases x y t (λ i. suc (length t) ≤ i → has (y ∷ t) x ≡ false)
    (λ below q. rw (ne_eqb y x (omega arith)) (has_past_end x t (omega arith))) (λ above q. absurd (omega arith)) p

pub has_below_all : (x : ℕ) (t : List ℕ) → AllByRecursion (λ z. x < z) t → has t x ≡ false
has_below_all x [] a = refl
has_below_all x (y ∷ t) a = let p : x < y = a.0 in rw (ne_eqb y x (omega arith), has_below_all x t a.1)

has_at_first : (x y : ℕ) (t : List ℕ) → IsSet (y ∷ t) → x ≤ y → eqb y x ≡ has (y ∷ t) x
has_at_first x y t s p =
    elim (cases_order x y) [
      | inl e ↦ rw (eq-eqb y x (omega arith))
      | inr q ↦ rw (ne_eqb y x (omega arith))
          (sym (has_below_all x t (All-map (λ z. y < z) (λ z. x < z) (λ z r. omega arith) t s.0)))
    ]

pub has_at : (x : ℕ) (t : List ℕ) (d : ℕ)
    → IsSet t → count_below x t < length t → eqb (get_or t (count_below x t) d) x ≡ has t x
has_at x [] d s p = absurd (omega arith)
has_at x (y ∷ t) d s p =
    count_below_cases x y t (λ i. i < suc (length t) → eqb (get_or (y ∷ t) i d) x ≡ has (y ∷ t) x)
    (λ below q. rw (ne_eqb y x (omega arith)) (has_at x t d s.1 (omega arith)))
    (λ above q. has_at_first x y t s above) p

pub adding_present : (x : ℕ) (t : List ℕ) → IsSet t → has t x ≡ true → adding x t ≡ t
adding_present x [] s e = absurd (both_ways false refl e)
adding_present x (y ∷ t) s e =
    elim (cases_order x y) [
      | inl same ↦ rw (le-ltb x y (omega arith), le-ltb y x (omega arith))
      | inr (inl less) ↦ absurd (both_ways _
          (has_below_all x (y ∷ t) (less, All-map (λ z. y < z) (λ z. x < z) (λ z r. omega arith) t s.0)) e)
      | inr (inr more) ↦ rw (le-ltb x y (omega arith), lt-ltb y x more)
          (ap (λ z. y ∷ z) (adding_present x t s.1 (rw (ne_eqb y x (omega arith)) at e)))
    ]

pub adding_absent : (x : ℕ) (t : List ℕ) → has t x ≡ false → adding x t ≡ insert t (count_below x t) x
adding_absent x [] e = refl
adding_absent x (y ∷ t) e =
    let parts = or_parts (eqb y x) (has t x) e in
    let other = eqb-false y x parts.0 in
    count_below_cases x y t (λ i. adding x (y ∷ t) ≡ insert (y ∷ t) i x)
    (λ below. rw (le-ltb x y (omega arith), lt-ltb y x below) (ap (λ z. y ∷ z) (adding_absent x t parts.1)))
    (λ above. rw (lt-ltb x y (omega arith)))

pub without_absent : (x : ℕ) (t : List ℕ) → has t x ≡ false → without x t ≡ t
without_absent x [] e = refl
without_absent x (y ∷ t) e =
    let parts = or_parts (eqb y x) (has t x) e in
    rw parts.0 (ap (λ z. y ∷ z) (without_absent x t parts.1))

pub without_present : (x : ℕ) (t : List ℕ) → IsSet t → has t x ≡ true → without x t ≡ remove t (count_below x t)
without_present x [] s e = absurd (both_ways false refl e)
without_present x (y ∷ t) s e =
    elim (cases_order x y) [
      | inl same ↦ rw (eq-eqb y x (omega arith), le-ltb y x (omega arith))
          (without_absent x t (rw same (has_below_all y t s.0)))
      | inr (inl less) ↦ absurd (both_ways _
          (has_below_all x (y ∷ t) (less, All-map (λ z. y < z) (λ z. x < z) (λ z r. omega arith) t s.0)) e)
      | inr (inr more) ↦ rw (ne_eqb y x (omega arith), lt-ltb y x more)
          (ap (λ z. y ∷ z) (without_present x t s.1 (rw (ne_eqb y x (omega arith)) at e)))
    ]

pub length-adding : (x : ℕ) (t : List ℕ) → length (adding x t) ≤ length t + 1
length-adding x [] = omega arith
length-adding x (y ∷ t) =
    elim (ltb x y) as (λ b. length (cond b (x ∷ y ∷ t) (y ∷ cond (ltb y x) (adding x t) t)) ≤ suc (length t) + 1) [
      | true ↦ omega arith
      | false ↦ elim (ltb y x) as (λ b. suc (length (cond b (adding x t) t)) ≤ suc (length t) + 1) [
        | true ↦ omega (arith, length-adding x t)
        | false ↦ omega arith
      ]
    ]

pub length-without : (x : ℕ) (t : List ℕ) → length (without x t) ≤ length t
length-without x [] = omega arith
length-without x (y ∷ t) =
    elim (eqb y x) as (λ b. length (cond (not b) (y ∷ without x t) (without x t)) ≤ suc (length t)) [
      | true ↦ omega (arith, length-without x t)
      | false ↦ omega (arith, length-without x t)
    ]

pub length-without_less : (x : ℕ) (t : List ℕ) → IsIn t x → length (without x t) < length t
length-without_less x [] h = cc
length-without_less x (y ∷ t) h =
    elim (eqb y x) as (λ b.
    IsTrue (b || has t x) → length (cond (not b) (y ∷ without x t) (without x t)) < suc (length t)) [
      | true ↦ λ _. omega (arith, length-without x t)
      | false ↦ λ r. omega (arith, length-without_less x t r)
    ] h

-- the members of the set with x, and of the set without x, as equations of tests
pub has_adding : (x : ℕ) (t : List ℕ) (z : ℕ) → has (adding x t) z ≡ (eqb x z || has t z)
has_adding x [] z = refl
has_adding x (y ∷ t) z = grind (arith, has_adding x t z)

pub has_without : (x : ℕ) (t : List ℕ) (z : ℕ) → has (without x t) z ≡ (has t z && not (eqb x z))
has_without x [] z = refl
has_without x (y ∷ t) z = grind (arith, has_without x t z)

-- the members of the set with x: x, and all that were members
pub IsIn-adding : (x : ℕ) (t : List ℕ) (z : ℕ) → IsIn (adding x t) z → (z ≡ x) ⊎ IsIn t z
IsIn-adding x t z h =
    elim (or_cases (eqb x z) (has t z) (sym (has_adding x t z) ∙ h)) as (λ _. (z ≡ x) ⊎ IsIn t z) [
      | inl e ↦ inl (sym (eqb-true x z e))
      | inr k ↦ inr k
    ]

-- the members of the set without x: all that were members, but x
pub IsIn-without : (x : ℕ) (t : List ℕ) (z : ℕ) → IsIn (without x t) z → (z ≢ x) × IsIn t z
IsIn-without x t z h =
    let p = and_parts (has t z) (not (eqb x z)) (sym (has_without x t z) ∙ h) in
    ((λ e. eqb-false x z (not-true (eqb x z) p.1) (sym e)), p.0)

-- x is a member of the set with x; each member stays one when x is added, and each other than x when x is removed
pub IsIn-self : (x : ℕ) (t : List ℕ) → IsIn (adding x t) x
IsIn-self x t = has_adding x t x ∙ or_left (eqb x x) (has t x) (eq-eqb x x refl)

pub IsIn-added : (x : ℕ) (t : List ℕ) (z : ℕ) → IsIn t z → IsIn (adding x t) z
IsIn-added x t z h = has_adding x t z ∙ or_right (eqb x z) (has t z) h

pub IsIn-kept : (x : ℕ) (t : List ℕ) (z : ℕ) → z ≢ x → IsIn t z → IsIn (without x t) z
IsIn-kept x t z ne h = let e = ne_eqb x z (λ s. ne (sym s)) in has_without x t z ∙ (λ i. h i && not (e i))

-- membership in the set with x, and in the set without x, as an equivalence
pub members_adding : (x : ℕ) (t u : List ℕ) → u ≡ adding x t → (z : ℕ) → IsIn u z ↔ ((z ≡ x) ⊎ IsIn t z)
members_adding x t u e z = subst (λ (s : List ℕ). IsIn s z ↔ ((z ≡ x) ⊎ IsIn t z)) (sym e) (
  IsIn-adding x t z,
  (λ h. elim h [ inl same ↦ subst (IsIn (adding x t)) (sym same) (IsIn-self x t) | inr k ↦ IsIn-added x t z k ]),
)

pub members_without : (x : ℕ) (t u : List ℕ) → u ≡ without x t → (z : ℕ) → IsIn u z ↔ ((z ≢ x) × IsIn t z)
members_without x t u e z =
    subst (λ (s : List ℕ). IsIn s z ↔ ((z ≢ x) × IsIn t z)) (sym e) (IsIn-without x t z, (λ h. IsIn-kept x t z h.0 h.1))

pub count_below-lt-length : (x : ℕ) (t : List ℕ) → has t x ≡ true → count_below x t < length t
count_below-lt-length x t h =
    elim (cases_order (count_below x t) (length t)) [
      | inl e ↦ absurd (both_ways _ (has_past_end x t (omega arith)) h)
      | inr (inl less) ↦ less
      | inr (inr more) ↦ absurd (omega (arith, count_below-le-length x t))
    ]

-- the id at a place is a member
pub IsIn-get_or : (t : List ℕ) (i d : ℕ) → i < length t → IsIn t (get_or t i d)
IsIn-get_or [] i d h = absurd (omega arith)
IsIn-get_or (y ∷ t) zero d h = rw (eq-eqb y y refl)
IsIn-get_or (y ∷ t) (suc i) d h = or_right _ _ (IsIn-get_or t i d (omega arith))

-- a set loses one member at most
pub length-without_set : (x : ℕ) (t : List ℕ) → IsSet t → length t ≤ length (without x t) + 1
length-without_set x [] s = omega arith
length-without_set x (y ∷ t) s =
    elim (eqb y x) as (λ b. eqb y x ≡ b → suc (length t) ≤ length (cond (not b) (y ∷ without x t) (without x t)) + 1) [
      | true ↦ λ e.
          let above = subst (λ (z : ℕ). AllByRecursion (λ w. z < w) t) (eqb-true y x e) s.0 in
          let same : without x t ≡ t = without_absent x t (has_below_all x t above) in omega (arith, ap length same)
      | false ↦ λ _. omega (arith, length-without_set x t s.1)
    ] refl

-- how many ids are below x
abbrev pub all_below : ℕ → List ℕ → ℕ
all_below x [] = 0
all_below x (y ∷ ys) = if ltb y x then suc (all_below x ys) else all_below x ys

none_below : (x : ℕ) (t : List ℕ) → AllByRecursion (λ z. x ≤ z) t → all_below x t ≡ 0
none_below x [] a = refl
none_below x (y ∷ t) a = rw (le-ltb y x a.0) (none_below x t a.1)

-- in a set those below x come first
pub all_below_first : (x : ℕ) (t : List ℕ) → IsSet t → all_below x t ≡ count_below x t
all_below_first x [] s = refl
all_below_first x (y ∷ t) s =
    elim (cases_order x y) [
      | inl same ↦ rw (le-ltb y x (omega arith))
          (none_below x t (All-map (λ z. y < z) (λ z. x ≤ z) (λ z r. omega arith) t s.0))
      | inr (inl less) ↦ rw (le-ltb y x (omega arith))
          (none_below x t (All-map (λ z. y < z) (λ z. x ≤ z) (λ z r. omega arith) t s.0))
      | inr (inr more) ↦ rw (lt-ltb y x more) (ap suc (all_below_first x t s.1))
    ]

-- more ids are below a greater one
pub count_below_more : (x o : ℕ) (t : List ℕ) → x ≤ o → count_below x t ≤ count_below o t
count_below_more x o [] le = omega arith
count_below_more x o (y ∷ t) le =
    count_below_cases x y t (λ i. i ≤ count_below o (y ∷ t))
    (λ below. rw (lt-ltb y o (omega arith)) (omega (arith, count_below_more x o t le)))
    (λ above. omega arith)

-- no member of a set is below its first
not_before : (o y : ℕ) (t : List ℕ) → IsSet (y ∷ t) → o < y → has (y ∷ t) o ≡ false
not_before o y t s less =
    has_below_all o (y ∷ t) (less, All-map (λ z. y < z) (λ z. o < z) (λ z r. omega arith) t s.0)

-- a member has its place before that of a greater id
pub count_below_less : (x o : ℕ) (t : List ℕ) → IsSet t → has t o ≡ true → o < x → count_below o t < count_below x t
count_below_less x o [] s h l = absurd (both_ways false refl h)
count_below_less x o (y ∷ t) s h l =
    elim (cases_order o y) [
      | inl same ↦ rw (le-ltb y o (omega arith), lt-ltb y x (omega arith)) (omega arith)
      | inr (inl less) ↦ absurd (both_ways _ (not_before o y t s less) h)
      | inr (inr more) ↦ rw (lt-ltb y o more, lt-ltb y x (omega arith))
          (omega (arith, count_below_less x o t s.1 (rw (ne_eqb y o (omega arith)) at h) l))
    ]

-- a member is below an id if its place is, and not if it is not
pub less_by_place : (x o : ℕ) (t : List ℕ) → count_below o t < count_below x t → o < x
less_by_place x o t l =
    elim (cases_order o x) [
      | inl same ↦ absurd (omega (arith, l, count_below_more x o t (omega arith)))
      | inr (inl less) ↦ less
      | inr (inr more) ↦ absurd (omega (arith, l, count_below_more x o t (omega arith)))
    ]

pub more_by_place : (x o : ℕ) (t : List ℕ) → IsSet t → has t o ≡ true → count_below x t ≤ count_below o t → x ≤ o
more_by_place x o t s h l =
    elim (cases_order o x) [
      | inl same ↦ omega arith
      | inr (inl less) ↦ absurd (omega (arith, l, count_below_less x o t s h less))
      | inr (inr more) ↦ omega arith
    ]

-- a set without a member has its other members, each after it one place lower
without_first : (o y : ℕ) (t : List ℕ) → IsSet (y ∷ t) → o ≡ y → without o t ≡ t
without_first o y t s same = without_absent o t (rw same (has_below_all y t s.0))

pub count_below-without_less : (x o : ℕ) (t : List ℕ) → IsSet t → has t o ≡ true → o < x
    → count_below x (without o t) + 1 ≡ count_below x t
count_below-without_less x o [] s h l = absurd (both_ways false refl h)
count_below-without_less x o (y ∷ t) s h l =
    elim (cases_order o y) [
      | inl same ↦ rw (eq-eqb y o (omega arith), lt-ltb y x (omega arith))
          (omega (arith, ap (count_below x) (without_first o y t s same)))
      | inr (inl less) ↦ absurd (both_ways _ (not_before o y t s less) h)
      | inr (inr more) ↦ rw (ne_eqb y o (omega arith), lt-ltb y x (omega arith))
          (omega (arith, count_below-without_less x o t s.1 (rw (ne_eqb y o (omega arith)) at h) l))
    ]

pub count_below-without_more : (x o : ℕ) (t : List ℕ) → IsSet t → has t o ≡ true → x ≤ o
    → count_below x (without o t) ≡ count_below x t
count_below-without_more x o [] s h l = refl
count_below-without_more x o (y ∷ t) s h l =
    elim (cases_order o y) [
      | inl same ↦ rw (eq-eqb y o (omega arith), le-ltb y x (omega arith))
          (ap (count_below x) (without_first o y t s same) ∙ sym (all_below_first x t s.1)
          ∙ none_below x t (All-map (λ z. y < z) (λ z. x ≤ z) (λ z r. omega arith) t s.0))
      | inr (inl less) ↦ absurd (both_ways _ (not_before o y t s less) h)
      | inr (inr more) ↦ rw (ne_eqb y o (omega arith))
          (ap (λ n. cond (ltb y x) (suc n) 0)
          (count_below-without_more x o t s.1 (rw (ne_eqb y o (omega arith)) at h) l))
    ]

-- a member goes out for an id that is none
replaced_at : (x o : ℕ) (t : List ℕ) → IsSet t → has t x ≡ false → has t o ≡ true
    → adding x (without o t) ≡ insert (remove t (count_below o t)) (count_below x (without o t)) x
replaced_at x o t s e h =
    adding_absent x (without o t) (has_without o t x ∙ ap (λ b. b && not (eqb o x)) e)
    ∙ ap (λ l. insert l (count_below x (without o t)) x) (without_present o t s h)

pub replaced_less : (x o : ℕ) (t : List ℕ) → IsSet t → has t x ≡ false → has t o ≡ true
    → count_below o t < count_below x t
    → adding x (without o t) ≡ insert (remove t (count_below o t)) (count_below x t - 1) x
replaced_less x o t s e h p =
    let l : o < x = less_by_place x o t p in
    let place : count_below x (without o t) ≡ count_below x t - 1 =
    omega (arith, count_below-without_less x o t s h l) in
    replaced_at x o t s e h ∙ ap (λ i. insert (remove t (count_below o t)) i x) place

pub replaced_more : (x o : ℕ) (t : List ℕ) → IsSet t → has t x ≡ false → has t o ≡ true
    → count_below x t ≤ count_below o t
    → adding x (without o t) ≡ insert (remove t (count_below o t)) (count_below x t) x
replaced_more x o t s e h p =
    let l : x ≤ o = more_by_place x o t s h p in
    replaced_at x o t s e h
    ∙ ap (λ i. insert (remove t (count_below o t)) i x) (count_below-without_more x o t s h l)

pub IsSet-replacing : (x o : ℕ) (t : List ℕ) → IsSet t → IsSet (adding x (without o t))
IsSet-replacing x o t s = IsSet-adding x (without o t) (IsSet-without o t s)

-- what holds of all items holds of the one at a place
at_place : (P : ℕ → Type 0) (t : List ℕ) (i d : ℕ) → AllByRecursion P t → i < length t → P (get_or t i d)
at_place P [] i d a l = absurd (omega (arith, l))
at_place P (y ∷ t) zero d a l = a.0
at_place P (y ∷ t) (suc i) d a l = at_place P t i d a.1 (omega (arith, l))

-- as many members are below a member as its place says
pub count_below_at : (t : List ℕ) (i d : ℕ) → IsSet t → i < length t → count_below (get_or t i d) t ≡ i
count_below_at [] i d s l = absurd (omega (arith, l))
count_below_at (y ∷ t) zero d s l = rw (le-ltb y y (omega arith))
count_below_at (y ∷ t) (suc i) d s l =
    let after : y < get_or t i d = at_place (λ z. y < z) t i d s.0 (omega (arith, l)) in
    rw (lt-ltb y (get_or t i d) after) (ap suc (count_below_at t i d s.1 (omega (arith, l))))

-- a member by its place: it is one, and so many are below it
pub placed : (t : List ℕ) (i x : ℕ) → IsSet t → i < length t → slice_get t i ≡ Some x
    → (has t x ≡ true) × (count_below x t ≡ i)
placed t i x s l e =
    let same : get_or t i 0 ≡ x = same_Some (get_or t i 0) x (sym (slice_get-get_or t i 0 l) ∙ e) in
    subst (λ y. (has t y ≡ true) × (count_below y t ≡ i)) same (IsIn-get_or t i 0 l, count_below_at t i 0 s l)

-- a member is at the place that says how many are below it
pub member_at : (x : ℕ) (t : List ℕ) → IsSet t → has t x ≡ true → slice_get t (count_below x t) ≡ Some x
member_at x t s h =
    let l : count_below x t < length t = count_below-lt-length x t h in
    slice_get-get_or t (count_below x t) 0 l
    ∙ ap Some (eqb-true (get_or t (count_below x t) 0) x (has_at x t 0 s l ∙ h))
