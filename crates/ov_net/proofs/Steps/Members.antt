-- The finite map from ids that the entries of a map of nodes stand for.
use Rattle.std.proofs.Common.{◌≡◌, false, ℕ, ◌+◌, nat_eq, cond, List, [], ◌∷◌, length, None, Some, is_some}
use Rattle.std.proofs.Common.{Option, IfSome, true≢false, slice_get, position, refl, sym, ap, ◌∙◌, arith}
use Rattle.std.proofs.lemmas.Bool.{eqb-true}
use Rattle.std.proofs.lemmas.List.Quantifiers.{position-Some}
use Rattle.std.proofs.lemmas.Option.{same_Some, slice_get-get_or, slice_get-map}
use Rattle.std.specs.List.{AllByRecursion, IsDistinct}
use Rattle.std.specs.Map.{lookup, keys_of}
use Rattle.std.specs.Option.{option_map}
use Rattle.std.specs.Ordering.{nat_cmp, eq_by_cmp}
use Rattle.std.specs.Cmp.{nat_cmp_total, nat_eq_equiv, eq_by_cmp_equiv, unsigned_ties}
use Rattle.std.specs.FinMap.{FinMap, find, from_entries, get, insert, len, contains_key, get-from_entries, get-insert}
use Rattle.std.specs.FinMap.{len-empty, len-insert, same_map, nat_cmp-IsAntisymmetric}
use Rattle.indexmap.specs.IndexMap.{IndexMap, IsUnique, keys, values, get as get_at, with_value_at}
use Rattle.indexmap.proofs.CallerLemmas.{updates-with_value_at}

module _ {X : Type 0} where
  looked : (es : List (ℕ × X)) (q : ℕ) → find nat_cmp q es ≡ lookup (nat_eq q) es
  looked [] q = refl
  looked (e ∷ es) q = let t = sym (unsigned_ties q e.0) in let rest = looked es q in λ i. cond (t i) (Some e.1) (rest i)

  -- the map has at each id what the entries have
  pub found : (es : List (ℕ × X)) (q : ℕ) → get (from_entries {R = nat_cmp} es) q ≡ lookup (nat_eq q) es
  found es q = get-from_entries nat_cmp_total es q ∙ looked es q

  -- entries with one value more, or another one at its id, stand for the map with that value inserted
  pub inserted : (es fs : List (ℕ × X)) (k : ℕ) (v : X)
      → ((q : ℕ) → lookup (nat_eq q) fs ≡ cond (nat_eq k q) (Some v) (lookup (nat_eq q) es))
      → from_entries {R = nat_cmp} fs ≡ insert (from_entries es) k v
  inserted es fs k v is = same_map nat_cmp_total nat_cmp-IsAntisymmetric _ _
      (λ q. found fs q ∙ is q ∙ turned q ∙ sym (get-insert nat_cmp_total (from_entries es) k v q))
    where
      turned : (q : ℕ) → cond (nat_eq k q) (Some v) (lookup (nat_eq q) es) ≡ cond (eq_by_cmp nat_cmp q k) (Some v)
          (get (from_entries {R = nat_cmp} es) q)
      turned q =
          let t = unsigned_ties k q ∙ (eq_by_cmp_equiv nat_cmp_total).symm k q in
          let f = sym (found es q) in λ i. cond (t i) (Some v) (f i)

  absent : (x : ℕ) (es : List (ℕ × X)) → AllByRecursion (λ y. nat_eq x y ≡ false) (keys_of es)
      → lookup (nat_eq x) es ≡ None
  absent x [] h = refl
  absent x (e ∷ es) h = ap (λ b. cond b (Some e.1) (lookup (nat_eq x) es)) h.0 ∙ absent x es h.1

  -- the map has as many ids as there are entries
  pub counted : (es : List (ℕ × X)) → IsDistinct nat_eq (keys_of es)
      → len (from_entries {R = nat_cmp} es) ≡ length es
  unfolding IsDistinct
  counted [] h = len-empty nat_cmp X
  counted (e ∷ es) h =
      let new : contains_key (from_entries {R = nat_cmp} es) e.0 ≡ false =
      ap is_some (found es e.0 ∙ absent e.0 es h.0) in
      len-insert nat_cmp_total (from_entries es) e.0 e.1
      ∙ ap (λ b. cond b (len (from_entries {R = nat_cmp} es)) (len (from_entries {R = nat_cmp} es) + 1)) new
      ∙ ap (λ n. n + 1) (counted es h.1) ∙ omega arith

-- the id at the place where a search for an id ends is that id
pub placed : (r : Option ℕ) (ids : List ℕ) (k : ℕ) → r ≡ position (nat_eq k) ids
    → IfSome r (λ i. slice_get ids i ≡ Some k)
placed None ids k is = tt
placed (Some i) ids k is =
    let at = position-Some (nat_eq k) ids i k (sym is) in
    slice_get-get_or ids i k at.0 ∙ ap (λ (q : ℕ). Some q) (sym (eqb-true k _ at.1))

-- the map has nothing at an id that no entry has
pub missed : {X : Type 0} (es : List (ℕ × X)) (k : ℕ) → false ≡ is_some (lookup (nat_eq k) es)
    → None ≡ get (from_entries {R = nat_cmp} es) k
missed {X} es k not = by (lookup (nat_eq k) es) not ∙ sym (found es k)
  where
    by : (o : Option X) → false ≡ is_some o → None ≡ o
    by None not = refl
    by (Some v) not = absurd (true≢false (sym not))

-- what is lent at the place of an id is what the map has at this id, and what is written there is inserted into the map
pub lent : {X S : Type 0} (m : IndexMap ℕ X S) (n : FinMap nat_cmp X) → from_entries m.entries ≡ n → (i k q : ℕ) (v : X)
    → IsUnique nat_eq m → slice_get (keys m) i ≡ Some k → slice_get (values m) i ≡ get_at nat_eq m k
    → slice_get m.entries i ≡ Some (q, v)
    → (Some v ≡ get n k) × ((w : X) → from_entries (with_value_at m i w).entries ≡ insert n k w)
lent m n view i k q v unique key value at =
    let id = same_Some q k (sym (slice_get-map (λ e. e.0) m.entries i ∙ ap (option_map (λ e. e.0)) at) ∙ key) in
    let here = at ∙ ap (λ (p : ℕ). Some (p, v)) id in
    let has = sym (slice_get-map (λ e. e.1) m.entries i ∙ ap (option_map (λ e. e.1)) at) ∙ value in (
      has ∙ sym (found m.entries k) ∙ ap (λ z. get z k) view,
      λ w. inserted _ _ k w (updates-with_value_at m i w nat_eq_equiv unique k v here).0 ∙ ap (λ z. insert z k w) view,
    )
