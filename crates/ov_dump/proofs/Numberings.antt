-- Names in the order of the keys of their places, and the nodes that have them.
use Rattle.std.proofs.Common.{◌≡◌, ◌≢◌, ◌∙◌, ◌+◌, ◌≤◌, ◌<◌, inl, inr, List, [], ◌∷◌, ◌++◌, ℕ, zero, suc, sym, ap}
use Rattle.std.proofs.Common.{subst, refl, length, map, get_or, set, slice_get, slice_index, Some, unwrap_or, arith}
use Rattle.std.proofs.Common.{cond, eq-or-lt_of_le, IfNone, IfSome, MatchOption, nat_eq, None, Option, true, false}
use Rattle.std.proofs.Common.{get_or-set_other, get_or-set_same, length-set}
use Rattle.std.proofs.lemmas.List.{length-map}
use Rattle.std.proofs.lemmas.Bool.{both_ways}
use Rattle.std.proofs.lemmas.Slice.Eq.{bytes_eq-Decides}
use Rattle.std.specs.Cmp.Lexicographic.{pointwise}
use Rattle.std.specs.HashMap.{HashMap, IsEmpty, get}
use Rattle.std.specs.Map.{lookup}
use Rattle.std.specs.List.{AllByRecursion}
use Rattle.ov_ids.specs.Members.{Has, Ordered}
use Rattle.ov_ids.proofs.Members.{has_place}
use Rattle.ov_graph.specs.Links.{most_of, most_of_any_graph}
use Rattle.ov_graph.specs.declared.size_limit.SizeLimit.{SizeLimit}
use Rattle.ov_graph.specs.declared.size_limit.SizeLimit.TheVariants.{Usual, Large}
use Rattle.ov_dump.specs.Code.Numbering.{AreByKey, AreByName, AreNodesAt}
use Rattle.ov_dump.specs.Dumps.{AreNumbered, HasLowerKey, IsNameOf, key_of}
use Rattle.ov_dump.proofs.Keyed.{all_by_key, apart, few_places}
use Rattle.ov_dump.proofs.Places.{place_of, within}

-- no limit is above what any graph may have
pub most_fits : (limit : SizeLimit) → most_of limit ≤ most_of_any_graph
most_fits Usual = omega arith
most_fits Large = omega arith

-- ---- items at places

pub there : {X : Type 0} (xs : List X) (i : ℕ) (d : X) → i < length xs → slice_get xs i ≡ Some (get_or xs i d)
there [] i d l = absurd (omega arith)
there (x ∷ xs) zero d l = refl
there (x ∷ xs) (suc i) d l = there xs i d (omega arith)

pub item_is : {X : Type 0} (xs : List X) (p : ℕ) (d x : X) → slice_get xs p ≡ Some x → get_or xs p d ≡ x
item_is [] p d x e = absurd (cc)
item_is (y ∷ ys) zero d x e = ap (λ o. unwrap_or o x) e
item_is (y ∷ ys) (suc p) d x e = item_is ys p d x e

-- an item that is there does not depend on what stands for one that is not
pub any_default : {X : Type 0} (xs : List X) (i : ℕ) (d e : X) → i < length xs → get_or xs i d ≡ get_or xs i e
any_default xs i d e l = item_is xs i d (get_or xs i e) (there xs i e l)

-- ---- the node at each place

-- the nodes so far, of these places in order
pub record NodesSoFar (count : ℕ) (order : List ℕ) (at : ℕ) (nodes : List ℕ) : Type 0 where
  pub len : length nodes ≡ count
  pub each : (q p : ℕ) → q < at → slice_get order q ≡ Some p → slice_index nodes p ≡ suc q

pub nodes_begun : (count : ℕ) (order nodes : List ℕ) → length nodes ≡ count → NodesSoFar count order 0 nodes
nodes_begun count order nodes e = record { len = e; each = λ q p low is. absurd (omega (arith, low)) }

pub nodes_more : (count key : ℕ) (order : List ℕ) (at place : ℕ) (nodes : List ℕ) → AreByKey count key order
    → at < length order → place ≡ get_or order at place → NodesSoFar count order at nodes
    → NodesSoFar count order (at + 1) (set nodes place (at + 1))
nodes_more count key order at place nodes s high here n = record {
  len = length-set nodes place (at + 1) ∙ n.len;
  each = λ q p low is. let le : q ≤ at = omega (arith, low) in elim (eq-or-lt_of_le le) [
    | inl e ↦
        let same : place ≡ p = here ∙ ap (λ i. get_or order i place) (sym e) ∙ item_is order q place p is in
        let own = ((s.each place).0 (subst (Has order) (sym here) (has_place order at place high))).0 in
        let len = n.len in
        subst (λ i. slice_index (set nodes place (at + 1)) i ≡ suc q) same
        (get_or-set_same nodes place (at + 1) 0 (omega (arith, own, len)) ∙ omega (arith, e))
    | inr l ↦
        let far : p ≢ place = λ same. apart count key order q at place s l high
        (item_is order q place p is ∙ same ∙ here) in
        get_or-set_other nodes place p (at + 1) 0 far ∙ n.each q p l is
  ];
}

pub nodes_all : (count : ℕ) (order : List ℕ) (at : ℕ) (nodes : List ℕ) → length order ≤ at
    → NodesSoFar count order at nodes → AreNodesAt count order nodes
nodes_all count order at nodes far n = record {
  len = n.len;
  each = λ q p is. let low = within order q p is in n.each q p (omega (arith, low, far)) is;
}

-- ---- the names at these places

-- the name at a place
abbrev pub name_at : List (List ℕ) → ℕ → List ℕ
name_at sorted p = get_or sorted p []

pub mapped_more : (f : ℕ → List ℕ) (xs : List ℕ) (x : ℕ) → map f (xs ++ x ∷ []) ≡ map f xs ++ f x ∷ []
mapped_more f [] x = refl
mapped_more f (y ∷ ys) x = ap (λ ns. f y ∷ ns) (mapped_more f ys x)

mapped : (f : ℕ → List ℕ) (xs : List ℕ) (n : List ℕ) → Has (map f xs) n → (p : ℕ) × Has xs p × (f p ≡ n)
mapped f [] n h = absurd h
mapped f (x ∷ xs) n h = elim h [
  | inl e ↦ (x, inl refl, e)
  | inr k ↦ let r = mapped f xs n k in (r.0, inr r.1, r.2)
]

maps : (f : ℕ → List ℕ) (xs : List ℕ) (p : ℕ) → Has xs p → Has (map f xs) (f p)
maps f [] p h = absurd h
maps f (x ∷ xs) p h = elim h [ inl e ↦ inl (ap f e) | inr k ↦ inr (maps f xs p k) ]

-- what is at a place of names by their places
mapped_at : (f : ℕ → List ℕ) (xs : List ℕ) (q p : ℕ) → slice_get xs q ≡ Some p → slice_get (map f xs) q ≡ Some (f p)
mapped_at f [] q p e = absurd (cc)
mapped_at f (x ∷ xs) zero p e = ap (λ o. Some (f (unwrap_or o p))) e
mapped_at f (x ∷ xs) (suc q) p e = mapped_at f xs q p e

-- names whose places are in the order of keys
lower_by_key : (sorted : List (List ℕ)) (order : List ℕ) → ((p : ℕ) → Has order p → p < length sorted)
    → Ordered (λ p q. key_of (length sorted) p < key_of (length sorted) q) order
    → Ordered (HasLowerKey sorted) (map (name_at sorted) order)
lower_by_key sorted [] own up = tt
lower_by_key sorted (p ∷ order) own up =
    (lower_than order (λ q h. own q (inr h)) up.0, lower_by_key sorted order (λ q h. own q (inr h)) up.1)
  where
    lower_than : (rest : List ℕ) → ((q : ℕ) → Has rest q → q < length sorted)
        → AllByRecursion (λ q. key_of (length sorted) p < key_of (length sorted) q) rest
        → AllByRecursion (HasLowerKey sorted (name_at sorted p)) (map (name_at sorted) rest)
    lower_than [] own all = tt
    lower_than (q ∷ rest) own' all = (
      (p, q, there sorted p [] (own p (inl refl)), there sorted q [] (own' q (inl refl)), all.0),
      lower_than rest (λ r h. own' r (inr h)) all.1,
    )

-- the names are numbered
pub numbered_by : (sorted names : List (List ℕ)) (order : List ℕ) → length sorted ≤ most_of_any_graph
    → AreByKey (length sorted) most_of_any_graph order → names ≡ map (name_at sorted) order → AreNumbered sorted names
numbered_by sorted names order few s is =
    subst (AreNumbered sorted) (sym is) (record {
      each = λ n. (
        (λ h. let r = mapped (name_at sorted) order n h in
            subst (Has sorted) r.2 (has_place sorted r.0 [] ((s.each r.0).0 r.1).0)),
        (λ h. let r = place_of sorted n h in
            let low = within sorted r.0 n r.1 in
            subst (Has (map (name_at sorted) order)) (item_is sorted r.0 [] n r.1)
            (maps (name_at sorted) order r.0 (all_by_key (length sorted) order few s r.0 low))),
      );
      ascend = lower_by_key sorted order (λ p h. ((s.each p).0 h).0) s.ascend;
    })

-- there are no more
pub few_names : (sorted names : List (List ℕ)) (order : List ℕ) (key : ℕ) → AreByKey (length sorted) key order
    → names ≡ map (name_at sorted) order → length names ≤ length sorted
few_names sorted names order key s is =
    let few = few_places (length sorted) key order s in
    let e = ap length is ∙ length-map order (name_at sorted) in omega (arith, few, e)

-- each name has the node beside it
pub node_beside : (sorted names : List (List ℕ)) (order nodes : List ℕ) → length sorted ≤ most_of_any_graph
    → AreByKey (length sorted) most_of_any_graph order → AreNodesAt (length sorted) order nodes
    → names ≡ map (name_at sorted) order
    → (p : ℕ) (a : List ℕ) → slice_get sorted p ≡ Some a → IsNameOf names (slice_index nodes p) a
node_beside sorted names order nodes few s at is p a here =
    let low = within sorted p a here in
    let r = place_of order p (all_by_key (length sorted) order few s p low) in (
      r.0,
      at.each r.0 p r.1,
      ap (λ ns. slice_get ns r.0) is ∙ mapped_at (name_at sorted) order r.0 p r.1
          ∙ ap Some (item_is sorted p [] a here),
    )

-- no name is in an empty map
pub by_name_begun : {S : Type 0} (sorted : List (List ℕ)) (ids : List ℕ) (nodes : HashMap (List ℕ) ℕ S)
    → IsEmpty nodes → AreByName sorted ids 0 nodes
by_name_begun sorted ids nodes none a =
    subst
    (λ es. MatchOption (lookup (pointwise nat_eq a) es) ((p : ℕ) → p < 0 → slice_get sorted p ≢ Some a)
    (λ i. (p : ℕ) × (p < 0) × (slice_get sorted p ≡ Some a) × (i ≡ slice_index ids p)))
    (sym none) (λ p low is. absurd (omega (arith, low)))

-- the next name gets its id
pub by_name_more : {S : Type 0} (sorted : List (List ℕ)) (ids : List ℕ) (at : ℕ) (name : List ℕ)
    (old new : HashMap (List ℕ) ℕ S) → slice_get sorted at ≡ Some name
    → ((q : List ℕ) → get (pointwise nat_eq) new q
    ≡ cond (pointwise nat_eq name q) (Some (slice_index ids at)) (get (pointwise nat_eq) old q))
    → AreByName sorted ids at old → AreByName sorted ids (at + 1) new
by_name_more sorted ids at name old new here updates own a =
    subst Holds (sym (updates a))
    (elim (pointwise nat_eq name a) as (λ b. pointwise nat_eq name a ≡ b
    → Holds (cond b (Some (slice_index ids at)) (get (pointwise nat_eq) old a))) [
      | true ↦ λ e. (at, omega arith, here ∙ ap Some ((bytes_eq-Decides name a).0 e), refl)
      | false ↦ λ e. kept e (get (pointwise nat_eq) old a) (own a)
    ] refl)
  where
    Holds : Option ℕ → Type 0
    Holds o = MatchOption o ((p : ℕ) → p < at + 1 → slice_get sorted p ≢ Some a)
        (λ i. (p : ℕ) × (p < at + 1) × (slice_get sorted p ≡ Some a) × (i ≡ slice_index ids p))

    kept : pointwise nat_eq name a ≡ false → (o : Option ℕ)
        → MatchOption o ((p : ℕ) → p < at → slice_get sorted p ≢ Some a)
        (λ i. (p : ℕ) × (p < at) × (slice_get sorted p ≡ Some a) × (i ≡ slice_index ids p))
        → Holds o
    kept e None none = λ p low is. let le : p ≤ at = omega (arith, low) in elim (eq-or-lt_of_le le) [
      | inl same ↦
          let one : name ≡ a = ap (λ o. unwrap_or o name) (sym here ∙ ap (slice_get sorted) (sym same) ∙ is) in
          both_ways (pointwise nat_eq name a) e ((bytes_eq-Decides name a).1 one)
      | inr l ↦ none p l is
    ]
    kept e (Some i) r = let low = r.1 in (r.0, omega (arith, low), r.2, r.3)

-- so the map has the node of each name
pub known : {S : Type 0} (sorted names : List (List ℕ)) (order ids : List ℕ) (nodes : HashMap (List ℕ) ℕ S)
    → length sorted ≤ most_of_any_graph → AreByKey (length sorted) most_of_any_graph order
    → AreNodesAt (length sorted) order ids → names ≡ map (name_at sorted) order
    → AreByName sorted ids (length sorted) nodes
    → (a : List ℕ) → MatchOption (get (pointwise nat_eq) nodes a) (¬ Has names a) (λ i. IsNameOf names i a)
known sorted names order ids nodes few s at is own a = of (get (pointwise nat_eq) nodes a) (own a)
  where
    of : (o : Option ℕ) → MatchOption o ((p : ℕ) → p < length sorted → slice_get sorted p ≢ Some a)
        (λ i. (p : ℕ) × (p < length sorted) × (slice_get sorted p ≡ Some a) × (i ≡ slice_index ids p))
        → MatchOption o (¬ Has names a) (λ i. IsNameOf names i a)
    of None none = λ h.
        let r = place_of sorted a (((numbered_by sorted names order few s is).each a).0 h) in
        none r.0 (within sorted r.0 a r.1) r.1
    of (Some i) r =
        subst (λ (j : ℕ). IsNameOf names j a) (sym r.3)
        (node_beside sorted names order ids few s at is r.0 a r.2)

-- what holds of what a map gave
pub if_some : (P : Type 0) (Q : ℕ → Type 0) (r o : Option ℕ) → r ≡ o → MatchOption o P Q → IfSome r Q
if_some P Q r o e m = subst (λ x. IfSome x Q) (sym e) (of o m)
  where
    of : (o : Option ℕ) → MatchOption o P Q → IfSome o Q
    of None m = tt
    of (Some i) m = m

pub if_none : (P : Type 0) (Q : ℕ → Type 0) (r o : Option ℕ) → r ≡ o → MatchOption o P Q → IfNone r P
if_none P Q r o e m = subst (λ x. IfNone x P) (sym e) (of o m)
  where
    of : (o : Option ℕ) → MatchOption o P Q → IfNone o P
    of None m = m
    of (Some i) m = tt
