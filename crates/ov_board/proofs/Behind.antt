-- Adding a number to an ascending list of numbers that are not higher: it is appended, unless it is the last already.
use Rattle.std.proofs.Common.{◌≡◌, ◌≢◌, ◌⊎◌, ℕ, zero, suc, ◌-◌, ◌<◌, ◌≤◌, Bool, true, false, eqb, ltb}
use Rattle.std.proofs.Common.{not, List, [], ◌∷◌, ◌++◌}
use Rattle.std.proofs.Common.{length, slice_get, Option, Some, None, refl, sym, ap, ◌∙◌, subst, inl, inr, arith}
use Rattle.std.proofs.lemmas.Option.{none-some, same_Some}
use Rattle.std.proofs.lemmas.Bool.{lt-ltb, le-ltb, eqb-true, eqb-false, not-true}
use Rattle.std.specs.Option.{option_eq}
use Rattle.ov_ids.specs.Members.{Has, Ascends}
use Rattle.ov_ids.specs.Sets.{adding}
use Rattle.ov_ids.proofs.Members.{has_tested}
use Rattle.ov_ids.proofs.Sets.{adding_present}
use Rattle.ov_board.specs.Claims.{WorkerState}
use Rattle.ov_board.specs.Steps.{failing}

-- the last number of a list
abbrev pub last_of : List ℕ → Option ℕ
last_of xs = slice_get xs (length xs - 1)

-- no number of the list is above x
abbrev pub IsTop : List ℕ → ℕ → Type 0
IsTop xs x = (y : ℕ) → Has xs y → y ≤ x

-- the item at a place is a member
pub has_at_place : (xs : List ℕ) (i x : ℕ) → slice_get xs i ≡ Some x → Has xs x
has_at_place [] i x h = absurd (none-some x h)
has_at_place (y ∷ ys) zero x h = inl (same_Some y x h)
has_at_place (y ∷ ys) (suc i) x h = inr (has_at_place ys i x h)

-- a member that is at least every other is the last
last_there : (xs : List ℕ) (x : ℕ) → Ascends xs → IsTop xs x → Has xs x → last_of xs ≡ Some x
last_there [] x a top h = absurd h
last_there (y ∷ []) x a top h = elim h [ inl e ↦ ap Some e | inr k ↦ absurd k ]
last_there (y ∷ z ∷ ys) x a top h = elim h [
  | inl e ↦ absurd (let up : y < z = a.0.0 in let t = top z (inr (inl refl)) in omega arith)
  | inr k ↦
      let place : suc (suc (length ys)) - 1 ≡ suc (suc (length ys) - 1) = omega arith in
      rw place (last_there (z ∷ ys) x a.1 (λ u m. top u (inr m)) k)
]

adding_last : (xs : List ℕ) (x : ℕ) → Ascends xs → last_of xs ≡ Some x → adding x xs ≡ xs
adding_last xs x a h = adding_present x xs a ((has_tested xs x _ refl).1 (has_at_place xs (length xs - 1) x h))

adding_above : (xs : List ℕ) (x : ℕ) → ((y : ℕ) → Has xs y → y < x) → adding x xs ≡ xs ++ x ∷ []
adding_above [] x h = refl
adding_above (y ∷ ys) x h =
    let low : y < x = h y (inl refl) in
    let above : ltb x y ≡ false = le-ltb x y (omega arith) in
    let below : ltb y x ≡ true = lt-ltb y x low in
    rw (above, below) (ap (λ (zs : List ℕ). y ∷ zs) (adding_above ys x (λ z m. h z (inr m))))

adding_behind : (xs : List ℕ) (x : ℕ) → Ascends xs → IsTop xs x → last_of xs ≢ Some x → adding x xs ≡ xs ++ x ∷ []
adding_behind xs x a top h = adding_above xs x (λ y m. elim (less_or_same y (top y m)) [
  | inl l ↦ l
  | inr e ↦ absurd (h (last_there xs x a top (subst (Has xs) e m)))
])
  where
    less_or_same : (y : ℕ) → y ≤ x → (y < x) ⊎ (y ≡ x)
    less_or_same y l = grind arith

-- b says whether o differs from x
abbrev pub IsOther : Option ℕ → ℕ → Bool → Type 0
IsOther o x b = b ≡ not (option_eq eqb o (Some x))

other_from_test : (o : Option ℕ) (x : ℕ) (b : Bool) → IsOther o x b → b ≡ true → o ≢ Some x
other_from_test None x b e t k = none-some x k
other_from_test (Some y) x b e t k = eqb-false y x (not-true (eqb y x) (sym e ∙ t)) (same_Some y x k)

same_from_test : (o : Option ℕ) (x : ℕ) (b : Bool) → IsOther o x b → b ≡ false → o ≡ Some x
same_from_test None x b e f = absurd (cc)
same_from_test (Some y) x b e f = ap Some (eqb-true y x (on (eqb y x) (sym f ∙ e)))
  where
    on : (b : Bool) → false ≡ not b → b ≡ true
    on true e = refl
    on false e = absurd (cc e)

-- `Worker::fail` appends the number: v are the fields of the worker before, s is what contracts see of it
pub failing_pushes : (v s : WorkerState) (fs : List ℕ) (x : ℕ) (o : Option ℕ) (b : Bool) → v ≡ s → Ascends s.failed
    → IsTop s.failed x → o ≡ last_of v.failed → IsOther o x b → b ≡ true → fs ≡ v.failed ++ x ∷ []
    → record v { failed = fs } ≡ failing x s
failing_pushes v s fs x o b seen a top last test on pushed =
    let same : o ≡ last_of s.failed = last ∙ ap (λ (u : WorkerState). last_of u.failed) seen in
    let other : last_of s.failed ≢ Some x = λ e. other_from_test o x b test on (same ∙ e) in
    let now : fs ≡ s.failed ++ x ∷ [] = pushed ∙ ap (λ (u : WorkerState). u.failed ++ x ∷ []) seen in
    let k : fs ≡ adding x s.failed = now ∙ sym (adding_behind s.failed x a top other) in
    λ i. record (seen i) { failed = k i }

-- `Worker::fail` finds the number as the last one already, and changes nothing
pub failing_rests : (v s : WorkerState) (x : ℕ) (o : Option ℕ) (b : Bool) → v ≡ s → Ascends s.failed
    → o ≡ last_of v.failed → IsOther o x b → b ≡ false → s ≡ failing x s
failing_rests v s x o b seen a last test off =
    let same : o ≡ last_of s.failed = last ∙ ap (λ (u : WorkerState). last_of u.failed) seen in
    let e : last_of s.failed ≡ Some x = sym same ∙ same_from_test o x b test off in
    let k : s.failed ≡ adding x s.failed = sym (adding_last s.failed x a e) in
    λ i. record s { failed = k i }
