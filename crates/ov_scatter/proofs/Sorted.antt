-- Lists that are sorted.
use Rattle.std.proofs.Common.{◌≡◌, ◌∙◌, ◌↔◌, ◌<◌, ◌≤◌, ◌+◌, inl, inr, List, [], ◌∷◌, ℕ, zero, suc, sym, subst}
use Rattle.std.proofs.Common.{refl, arith, eqb-true, length, nat_cmp, nat_eq, Less, Equal, Greater}
use Rattle.std.proofs.lemmas.Cmp.{nat_cmp_total, by_ranked, ranked, nat_eq_equiv}
use Rattle.std.proofs.lemmas.List.Kept.{Contains-dedup, Contains-from_dedup, IsStrictlySortedBy-dedup}
use Rattle.std.proofs.lemmas.List.Sorted.{Contains-permutation, IsPermutation-sym, length_permutation}
use Rattle.std.proofs.lemmas.Map.Keys.{sorted_head, sorted_tail}
use Rattle.std.specs.Cmp.{unsigned_ties}
use Rattle.std.specs.List.{Contains, dedup}
use Rattle.std.specs.List.Sorted.{IsPermutation, IsSorted, IsStrictlySortedBy}
use Rattle.ov_ids.specs.Members.{Has, Ascends}
use Rattle.ov_ids.proofs.Members.{all_from_members, all_member, has_place}
use Rattle.ov_scatter.specs.Code.Keys.{IsOrder}

-- ---- members, as the kit says them

has_contains : {X : Type 0} (xs : List X) (x : X) → Has xs x → Contains xs x
has_contains [] x h = absurd h
has_contains (y ∷ xs) x h = elim h [
  | inl e ↦ (zero, omega arith, e)
  | inr k ↦ let r = has_contains xs x k in let low = r.1 in (suc r.0, omega (arith, low), r.2)
]

contains_has : {X : Type 0} (xs : List X) (x : X) → Contains xs x → Has xs x
contains_has xs x c = subst (Has xs) c.2 (has_place xs c.0 x c.1)

-- a list in another order has the same members
pub has_moved : {X : Type 0} (old new : List X) → IsPermutation old new → (x : X) → Has new x ↔ Has old x
has_moved old new moved x = (
  (λ h. contains_has old x (Contains-permutation new old x (IsPermutation-sym old new moved) (has_contains new x h))),
  (λ h. contains_has new x (Contains-permutation old new x moved (has_contains old x h))),
)

-- ---- places

pub order_moved : (n : ℕ) (old new : List (ℕ × ℕ)) → IsPermutation old new → IsOrder n old → IsOrder n new
order_moved n old new moved s = record {
  count = length_permutation old new moved ∙ s.count;
  within = λ e h. s.within e ((has_moved old new moved e).0 h);
  all = λ p low. let some = s.all p low in (some.0, (has_moved old new moved (some.0, p)).1 some.1);
}

-- ---- ids that are sorted, each left once

less_below : (a b : ℕ) → nat_cmp a b ≡ Less → a < b
less_below a b e =
    by_ranked (a < b) (a ≡ b) (b < a) (nat_cmp a b) (ranked a b (nat_cmp a b) refl)
    (λ o p. p)
    (λ o p. let f : Equal ≡ Less = sym o ∙ e in absurd (cc))
    (λ o p. let f : Greater ≡ Less = sym o ∙ e in absurd (cc))

strict : (xs : List ℕ) → IsStrictlySortedBy nat_cmp xs → Ascends xs
strict [] up = tt
strict (x ∷ xs) up = (
  all_from_members (λ y. x < y) xs
      (λ y h. less_below x y (all_member (λ y. nat_cmp x y ≡ Less) xs y (sorted_head nat_cmp x xs up) h)),
  strict xs (sorted_tail nat_cmp x xs up),
)

pub in_order : (sorted new : List ℕ) → IsSorted nat_cmp sorted → new ≡ dedup nat_eq sorted → Ascends new
in_order sorted new up is =
    subst Ascends (sym is)
    (strict (dedup nat_eq sorted) (IsStrictlySortedBy-dedup nat_cmp_total unsigned_ties sorted up))

pub same_members : (old sorted new : List ℕ) → IsPermutation old sorted → new ≡ dedup nat_eq sorted
    → (x : ℕ) → Has new x ↔ Has old x
same_members old sorted new moved is x = (
  (λ h. (has_moved old sorted moved x).0 (contains_has sorted x
      (Contains-from_dedup nat_eq sorted x (has_contains (dedup nat_eq sorted) x (subst (λ xs. Has xs x) is h))))),
  (λ h. subst (λ xs. Has xs x) (sym is) (contains_has (dedup nat_eq sorted) x
      (Contains-dedup nat_eq_equiv eqb-true sorted x
      (has_contains sorted x ((has_moved old sorted moved x).1 h))))),
)

-- ids that ascend, from `low` on and below `end`, are no more than there are numbers between
pub few_between : (xs : List ℕ) (low end : ℕ) → low ≤ end → Ascends xs → ((x : ℕ) → Has xs x → (low ≤ x) × (x < end))
    → length xs + low ≤ end
few_between [] low end le up within = omega (arith, le)
few_between (x ∷ xs) low end le up within =
    let at = within x (inl refl) in
    let above = at.0 in
    let below = at.1 in
    let rest = few_between xs (suc x) end (omega (arith, below)) up.1
    (λ y h. (next y (all_member (λ y. x < y) xs y up.0 h), (within y (inr h)).1)) in omega (arith, above, rest)
  where
    next : (y : ℕ) → x < y → suc x ≤ y
    next y l = omega (arith, l)
