-- Lists and maps with one item more or less.
use Rattle.std.proofs.Common.{◌≡◌, ◌≢◌, ℕ, zero, suc, Bool, true, false, cond, List, [], ◌∷◌, ◌++◌, length, take, drop}
use Rattle.std.proofs.Common.{None, Some, ◌⊎◌, inl, inr, refl, sym, ap, subst, ◌∙◌}
use Rattle.std.specs.Prelude.{slice_get, remove, Option, MatchOption}
use Rattle.std.specs.declared.cmp.Ordering.{Ordering}
use Rattle.std.specs.declared.cmp.Ordering.TheVariants.{Less, Equal, Greater}
use Rattle.std.specs.Ordering.{eq_by_cmp, is_eq}
use Rattle.std.specs.Cmp.{IsTotalOrder}
use Rattle.std.specs.FinMap.{FinMap, IsAntisymmetric, get, insert, get-insert}
use Rattle.std.proofs.lemmas.Cmp.{eq_by_cmp_equiv}
use Rattle.std.proofs.lemmas.Option.{none-some, same_Some}
use Rattle.ov_ids.specs.Members.{Has}
use Rattle.ov_ids.proofs.Members.{has_append_cases}

-- what follows where there is nothing and also where there is something
pub some_way : {X : Type 0} (o : Option X) (P : Type 0) (Q : X → Type 0) (R : Type 0) → (P → R) → ((x : X) → Q x → R)
    → MatchOption o P Q → R
some_way None P Q R f g h = f h
some_way (Some x) P Q R f g h = g x h

module _ {X : Type 0} where
  -- what is at a place of a list is there in a longer list
  pub at_prefix : (xs ys : List X) (i : ℕ) (x : X) → slice_get xs i ≡ Some x → slice_get (xs ++ ys) i ≡ Some x
  at_prefix [] ys i x h = absurd (none-some x h)
  at_prefix (y ∷ xs) ys zero x h = h
  at_prefix (y ∷ xs) ys (suc i) x h = at_prefix xs ys i x h

  pub at_end : (xs : List X) (y : X) → slice_get (xs ++ y ∷ []) (length xs) ≡ Some y
  at_end [] y = refl
  at_end (x ∷ xs) y = at_end xs y

  -- an item of the longer list was there before, or is the new one
  pub at_cases : (xs : List X) (y : X) (i : ℕ) (x : X) → slice_get (xs ++ y ∷ []) i ≡ Some x
      → (slice_get xs i ≡ Some x) ⊎ ((i ≡ length xs) × (y ≡ x))
  at_cases [] y zero x h = inr (refl, same_Some y x h)
  at_cases [] y (suc i) x h = absurd (none-some x h)
  at_cases (z ∷ xs) y zero x h = inl h
  at_cases (z ∷ xs) y (suc i) x h = elim (at_cases xs y i x h) [ inl k ↦ inl k | inr k ↦ inr (ap suc k.0, k.1) ]

  -- what is at a place is a member, and a member has a place
  pub has_at : (xs : List X) (i : ℕ) (x : X) → slice_get xs i ≡ Some x → Has xs x
  has_at [] i x h = absurd (none-some x h)
  has_at (y ∷ xs) zero x h = inl (same_Some y x h)
  has_at (y ∷ xs) (suc i) x h = inr (has_at xs i x h)

  pub at_has : (xs : List X) (x : X) → Has xs x → (i : ℕ) × (slice_get xs i ≡ Some x)
  at_has [] x h = absurd h
  at_has (y ∷ xs) x h = elim h [ inl e ↦ (0, ap Some e) | inr k ↦ let r = at_has xs x k in (suc r.0, r.1) ]

  has_taken : (i : ℕ) (xs : List X) (x : X) → Has (take i xs) x → Has xs x
  has_taken zero xs x h = absurd h
  has_taken (suc i) [] x h = h
  has_taken (suc i) (y ∷ xs) x h = elim h [ inl e ↦ inl e | inr k ↦ inr (has_taken i xs x k) ]

  has_dropped : (i : ℕ) (xs : List X) (x : X) → Has (drop i xs) x → Has xs x
  has_dropped zero xs x h = h
  has_dropped (suc i) [] x h = h
  has_dropped (suc i) (y ∷ xs) x h = inr (has_dropped i xs x h)

  -- what is left was there before
  pub has_remove : (xs : List X) (i : ℕ) (x : X) → Has (remove xs i) x → Has xs x
  has_remove xs i x h =
      elim (has_append_cases (take i xs) (drop (suc i) xs) x h) [
        | inl k ↦ has_taken i xs x k
        | inr k ↦ has_dropped (suc i) xs x k
      ]

tied : (r : Ordering) → is_eq r ≡ true → r ≡ Equal
tied Less e = cc
tied Equal e = refl
tied Greater e = cc

module _ {K X : Type 0} {R : K → K → Ordering} (o : IsTotalOrder R) where
  pub inserted_here : (m : FinMap R X) (k : K) (v : X) → get (insert m k v) k ≡ Some v
  inserted_here m k v = get-insert o m k v k ∙ ap (λ b. cond b (Some v) (get m k)) ((eq_by_cmp_equiv o).refl k)

  -- an id that has a value keeps one
  pub inserted_stays : (m : FinMap R X) (k : K) (v : X) (q : K) → get m q ≢ None → get (insert m k v) q ≢ None
  inserted_stays m k v q h e = by (eq_by_cmp R q k) (sym (get-insert o m k v q) ∙ e)
    where
      by : (b : Bool) → cond b (Some v) (get m q) ≡ None → ⊥
      by true c = none-some v (sym c)
      by false c = h c

  -- what is found is the new value at its id, or was there before at another
  pub inserted_cases : IsAntisymmetric R → (m : FinMap R X) (k : K) (v : X) (q : K) (x : X)
      → get (insert m k v) q ≡ Some x → ((k ≡ q) × (v ≡ x)) ⊎ ((k ≢ q) × (get m q ≡ Some x))
  inserted_cases same m k v q x h = by (eq_by_cmp R q k) refl (sym (get-insert o m k v q) ∙ h)
    where
      by : (b : Bool) → eq_by_cmp R q k ≡ b → cond b (Some v) (get m q) ≡ Some x
          → ((k ≡ q) × (v ≡ x)) ⊎ ((k ≢ q) × (get m q ≡ Some x))
      by true e c = inl (sym (same q k (tied (R q k) e)), same_Some v x c)
      by false e c = inr ((λ s. apart (sym e ∙ subst (λ z. eq_by_cmp R z k ≡ true) s ((eq_by_cmp_equiv o).refl k))), c)
        where
          apart : false ≡ true → ⊥
          apart f = cc
