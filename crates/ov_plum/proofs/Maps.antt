-- What the entries of an `IndexMap` by ids stand for, as a finite map.
use Rattle.std.proofs.Common.{◌≡◌, ℕ, suc, drop, slice_get, Bool, true, false, cond, List, [], ◌∷◌, ◌&&◌, Option, None}
use Rattle.std.proofs.Common.{Some, refl, sym, ap, subst, ◌∙◌, nat_eq}
use Rattle.std.proofs.Math.Seq.{drop-cons}
use Rattle.std.proofs.lemmas.Option.{slice_get_within, get_or_from_slice_get}
use Rattle.std.specs.declared.cmp.Ordering.{Ordering}
use Rattle.std.specs.declared.cmp.Ordering.TheVariants.{Less, Equal, Greater}
use Rattle.std.specs.Ordering.{nat_cmp, ordering_then, eq_by_cmp}
use Rattle.std.specs.Cmp.{IsTotalOrder, eq_by_cmp_equiv, unsigned_ties, nat_cmp_total, then_total, on_total, both_tied}
use Rattle.std.specs.Map.{lookup}
use Rattle.std.specs.FinMap.{FinMap, IsAntisymmetric, find, from_entries, get, insert, remove, get-from_entries}
use Rattle.std.specs.FinMap.{get-insert, get-remove, same_map, nat_cmp-IsAntisymmetric}
use Rattle.ov_ids.specs.declared.id.MsgId.{MsgId}
use Rattle.std.proofs.lemmas.Map.Views.{tells_apart}
use Rattle.ov_plum.specs.Ids.{id_cmp}

pub id_cmp_total : IsTotalOrder id_cmp
id_cmp_total = then_total (on_total (λ a. a.origin) nat_cmp_total) (on_total (λ a. a.seq) nat_cmp_total)

-- the two numbers of ids that tie are the same
tied : (r s : Ordering) → ordering_then r s ≡ Equal → (r ≡ Equal) × (s ≡ Equal)
tied Less s e = absurd (subst (λ o. IsLess o) e tt)
  where
    IsLess : Ordering → Type 0
    IsLess Less = Unit {0}
    IsLess _ = ⊥
tied Equal s e = (refl, e)
tied Greater s e = absurd (subst (λ o. IsGreater o) e tt)
  where
    IsGreater : Ordering → Type 0
    IsGreater Greater = Unit {0}
    IsGreater _ = ⊥

pub id_cmp_same : IsAntisymmetric id_cmp
id_cmp_same a b e =
    let both = tied _ _ e in
    let o : a.origin ≡ b.origin = nat_cmp-IsAntisymmetric _ _ both.0 in
    let s : a.seq ≡ b.seq = nat_cmp-IsAntisymmetric _ _ both.1 in
    λ i. record { origin = o i; seq = s i }

-- the test by which an `IndexMap` finds an id
abbrev pub same_id : MsgId → MsgId → Bool
same_id a b = nat_eq a.origin b.origin && nat_eq a.seq b.seq

pub same_id_ties : (a b : MsgId) → same_id a b ≡ eq_by_cmp id_cmp a b
same_id_ties a b = both_tied _ _ (nat_cmp a.origin b.origin) (nat_cmp a.seq b.seq) (unsigned_ties a.origin b.origin)
    (unsigned_ties a.seq b.seq)

by_id : (q k : MsgId) → eq_by_cmp id_cmp q k ≡ same_id k q
by_id q k = (eq_by_cmp_equiv id_cmp_total).symm q k ∙ sym (same_id_ties k q)

module _ {X : Type 0} where
  pub found : (es : List (MsgId × X)) (q : MsgId) → get (from_entries {R = id_cmp} es) q ≡ lookup (same_id q) es
  found es q = get-from_entries id_cmp_total es q ∙ looked es
    where
      looked : (es : List (MsgId × X)) → find id_cmp q es ≡ lookup (same_id q) es
      looked [] = refl
      looked (e ∷ es) = let t = sym (same_id_ties q e.0) in let rest = looked es in λ i. cond (t i) (Some e.1) (rest i)

  -- what these find but at one id, there something else or nothing
  elsewhere : (es : List (MsgId × X)) (k : MsgId) (w : Option X) (q : MsgId)
      → cond (eq_by_cmp id_cmp q k) w (get (from_entries {R = id_cmp} es) q) ≡ cond (same_id k q) w
      (lookup (same_id q) es)
  elsewhere es k w q = let t = by_id q k in let f = found es q in λ i. cond (t i) w (f i)

  -- entries that find what these find, but a value at one id, stand for the map with that value there
  pub inserted : (es fs : List (MsgId × X)) (k : MsgId) (v : X)
      → ((q : MsgId) → lookup (same_id q) fs ≡ cond (same_id k q) (Some v) (lookup (same_id q) es))
      → from_entries {R = id_cmp} fs ≡ insert (from_entries es) k v
  inserted es fs k v is = same_map id_cmp_total id_cmp_same _ _
      (λ q. found fs q ∙ is q ∙ sym (get-insert id_cmp_total (from_entries es) k v q ∙ elsewhere es k (Some v) q))

  -- and but nothing there, for the map without that id
  pub removed : (es fs : List (MsgId × X)) (k : MsgId)
      → ((q : MsgId) → lookup (same_id q) fs ≡ cond (same_id k q) None (lookup (same_id q) es))
      → from_entries {R = id_cmp} fs ≡ remove (from_entries es) k
  removed es fs k is = same_map id_cmp_total id_cmp_same _ _
      (λ q. found fs q ∙ is q ∙ sym (get-remove id_cmp_total (from_entries es) k q ∙ elsewhere es k None q))

-- entries from a place on, and the one at that place
pub one_more : {X : Type 0} (es : List (MsgId × X)) (i : ℕ) (e : MsgId × X) → slice_get es i ≡ Some e
    → from_entries {R = id_cmp} (drop i es) ≡ insert (from_entries (drop (suc i) es)) e.0 e.1
one_more es i e at = ap from_entries
    (drop-cons es i e (slice_get_within es i e at) ∙ ap (λ x. x ∷ drop (suc i) es) (get_or_from_slice_get es i e e at))

-- what stands at a key may be put there again
pub put_again : {K X : Type 0} {R : K → K → Ordering} (total : IsTotalOrder R) (same : IsAntisymmetric R)
    (m : FinMap R X) (k : K) (v : X) → get m k ≡ Some v → insert m k v ≡ m
put_again {K = K} {R = R} total same m k v at = same_map total same _ _ (λ q. get-insert total m k v q ∙ there q)
  where
    there : (q : K) → cond (eq_by_cmp R q k) (Some v) (get m q) ≡ get m q
    there q =
        elim (eq_by_cmp R q k) as (λ b. eq_by_cmp R q k ≡ b → cond b (Some v) (get m q) ≡ get m q) [
          | true ↦ λ e. sym at ∙ ap (get m) (sym (tells_apart same q k e))
          | false ↦ λ _. refl
        ] refl
