-- The place of a node in ascending nodes, by binary search.
use Rattle.std.proofs.Common.{◌≡◌, ◌∙◌, ℕ, zero, suc, cond, Bool, [], ◌∷◌, MatchResult, ◌<◌, ◌≤◌, List, true, false}
use Rattle.std.proofs.Common.{length, get_or, slice_index, Option, Some, None, Result, Ok, Err, IfSome, IfNone, inl}
use Rattle.std.proofs.Common.{inr, refl, sym, ap, subst, arith}
use Rattle.std.specs.Option.{is_some}
use Rattle.std.specs.Result.{result_ok}
use Rattle.std.specs.Ordering.{nat_cmp}
use Rattle.std.specs.List.Sorted.{IsBinarySearchResult}
use Rattle.std.proofs.lemmas.Bool.{cases_lt, cases_eq, le-ltb, lt-ltb}
use Rattle.std.proofs.lemmas.List.Sorted.{searched}
use Rattle.ov_ids.specs.Members.{Has, Ascends}
use Rattle.ov_ids.specs.Sets.{has, count_below}
use Rattle.ov_ids.proofs.Members.{has_tested, has_place, place_of, ordered_at}

pub never_falls : (xs : List ℕ) → Ascends xs → (i j : ℕ) → i ≤ j → j < length xs → get_or xs i 0 ≤ get_or xs j 0
never_falls xs up i j l m = elim (cases_eq i j) [
  | inl e ↦ let f : get_or xs i 0 ≡ get_or xs j 0 = ap (λ (k : ℕ). get_or xs k 0) e in omega (arith, f)
  | inr ne ↦ let r : get_or xs i 0 < get_or xs j 0 = ordered_at (λ x y. x < y) xs i j 0 up (omega arith) m in
      omega (arith, r)
]

-- what the search does not find is not in the list
pub not_found : (xs : List ℕ) (x : ℕ) (r : Result ℕ ℕ) (o : Option ℕ) → Ascends xs
    → IsBinarySearchResult (λ y. nat_cmp y x) xs r → o ≡ result_ok r → IfNone o (¬ Has xs x)
not_found xs x (Ok i) o up found e = subst (λ (a : Option ℕ). IfNone a (¬ Has xs x)) (sym e) tt
not_found xs x (Err i) o up found e =
    let s = searched xs x (Err i) found (never_falls xs up) in
    subst (λ (a : Option ℕ). IfNone a (¬ Has xs x)) (sym e) (λ h.
    let n = place_of xs x h in
    let at = n.2 in
    elim (cases_lt n.0 i) [
      | inl l ↦ let b = s.1 n.0 l in omega (arith, at, b)
      | inr ge ↦ let b = s.2 n.0 ge n.1 in omega (arith, at, b)
    ])

-- what has a place is in the list
pub found_test : (xs : List ℕ) (x : ℕ) (o : Option ℕ) → IfSome o (λ p. (p < length xs) × (slice_index xs p ≡ x))
    → IfNone o (¬ Has xs x) → is_some o ≡ has xs x
found_test xs x None some none =
    elim (has xs x) as (λ b. b ≡ has xs x → false ≡ b) [
      | true ↦ λ e. absurd (none ((has_tested xs x true e).0 refl))
      | false ↦ λ e. refl
    ] refl
found_test xs x (Some p) some none =
    sym ((has_tested xs x (has xs x) refl).1 (subst (Has xs) some.1 (has_place xs p 0 some.0)))

count_is : (xs : List ℕ) (x i : ℕ) → i ≤ length xs → ((k : ℕ) → k < i → get_or xs k 0 < x)
    → ((k : ℕ) → i ≤ k → k < length xs → x ≤ get_or xs k 0) → i ≡ count_below x xs
count_is [] x i l below above = omega arith
count_is (y ∷ ys) x zero l below above =
    let e = le-ltb y x (above 0 (omega arith) (omega arith)) in
    ap (λ (b : Bool). cond b (suc (count_below x ys)) 0) (sym e)
count_is (y ∷ ys) x (suc i) l below above =
    let e = lt-ltb y x (below 0 (omega arith)) in
    let rest = count_is ys x i (omega arith) (λ k m. below (suc k) (omega arith))
    (λ k m n. above (suc k) (omega arith) (omega arith)) in
    ap suc rest ∙ ap (λ (b : Bool). cond b (suc (count_below x ys)) 0) (sym e)

-- the place of a node in ascending nodes is the number of nodes below it
pub place_counted : (xs : List ℕ) (x i : ℕ) → Ascends xs → i < length xs → slice_index xs i ≡ x → i ≡ count_below x xs
place_counted xs x i up l e =
    count_is xs x i (omega (arith, l))
    (λ k m. let r : get_or xs k 0 < get_or xs i 0 = ordered_at (λ x y. x < y) xs k i 0 up m l in omega (arith, r, e))
    (λ k m n. let r = never_falls xs up i k m n in omega (arith, r, e))

-- the search returns the number of nodes below
pub halved : (xs : List ℕ) (x : ℕ) (r : Result ℕ ℕ) → Ascends xs → IsBinarySearchResult (λ y. nat_cmp y x) xs r
    → MatchResult r (λ i. i ≡ count_below x xs) (λ i. i ≡ count_below x xs)
halved xs x (Ok i) up found = let s = searched xs x (Ok i) found (never_falls xs up) in place_counted xs x i up s.0 s.1
halved xs x (Err i) up found =
    let s = searched xs x (Err i) found (never_falls xs up) in
    count_is xs x i s.0 s.1 (λ k m n. let r = s.2 k m n in omega (arith, r))
