-- A walk that is sought step by step, and the steps that a search's tree has.
use Rattle.std.proofs.Common.{◌≡◌, ◌≢◌, ◌∙◌, ◌↔◌, ◌⊎◌, ℕ, suc, ◌+◌, ◌-◌, ◌<◌, inl, inr, List, [], ◌∷◌, ◌++◌}
use Rattle.std.proofs.Common.{length, get_or, Option, Some, None, slice_get, refl, sym, ap, subst, arith}
use Rattle.std.proofs.lemmas.List.{length_push}
use Rattle.ov_ids.specs.Members.{Has, IsDistinct}
use Rattle.ov_ids.proofs.Members.{has_append_left, has_append_cases}
use Rattle.ov_graph.specs.Links.{Linked}
use Rattle.ov_graph.specs.Row.{HasBit}
use Rattle.ov_graph.proofs.EvenTest.Filtered.{linked_node}
use Rattle.ov_split.specs.SplitNetState.{SplitNetState}
use Rattle.ov_split.specs.Code.Residual.{Table}
use Rattle.ov_split.specs.Placed.{IsPlaced}
use Rattle.ov_split.proofs.Augmenting.Lists.{distinct_length, distinct_push}
use Rattle.ov_flow.specs.declared.walk_augmentation.Hop.{Hop}
use Rattle.ov_flow.specs.Code.Reached.{tip_of, IsWay, IsStepBy, IsTree}
use Rattle.ov_flow.specs.Code.Walked.{table_of, IsTable, nodes_of, Goes, IsWalkBy, end_of, IsNextHop}
use Rattle.ov_flow.proofs.Visiting.{tip_below}

goes_push : (n : SplitNetState) (from : Table) (x : ℕ) (hops : List Hop) (h : Hop) → Goes n from x hops (end_of x hops)
    → IsStepBy n from (end_of x hops) h.node h.way → Goes n from x (hops ++ h ∷ []) h.node
goes_push n from x [] h g s = (s, refl)
goes_push n from x (k ∷ hops) h g s = (g.0, goes_push n from k.node hops h g.1 s)

goes_prefix : (n : SplitNetState) (from : Table) (x t : ℕ) (xs ys : List Hop) → Goes n from x (xs ++ ys) t
    → Goes n from x xs (end_of x xs)
goes_prefix n from x t [] ys g = refl
goes_prefix n from x t (k ∷ xs) ys g = (g.0, goes_prefix n from k.node t xs ys g.1)

-- the last node of more steps is that of the last step
pub end_push : (x : ℕ) (hops : List Hop) (h : Hop) → end_of x (hops ++ h ∷ []) ≡ h.node
end_push x [] h = refl
end_push x (k ∷ hops) h = end_push k.node hops h

end_has : (x : ℕ) (hops : List Hop) → Has (x ∷ nodes_of hops) (end_of x hops)
end_has x [] = inl refl
end_has x (k ∷ hops) = inr (end_has k.node hops)

pub end_last : (x : ℕ) (hops : List Hop) (h : Hop) → Some h ≡ slice_get hops (length hops - 1) → end_of x hops ≡ h.node
end_last x [] h e = absurd (cc e)
end_last x (k ∷ []) h e = let s : h ≡ k = cc e in ap (λ (z : Hop). z.node) (sym s)
end_last x (k ∷ j ∷ hops) h e =
    let i : length (k ∷ j ∷ hops) - 1 ≡ suc (length hops) = omega arith in
    let f : Some h ≡ slice_get (j ∷ hops) (length hops) =
    subst (λ (m : ℕ). Some h ≡ slice_get (k ∷ j ∷ hops) m) i e in
    let b : length hops ≡ length (j ∷ hops) - 1 = omega arith in
    end_last k.node (j ∷ hops) h (subst (λ (m : ℕ). Some h ≡ slice_get (j ∷ hops) m) b f)

nodes_append : (xs ys : List Hop) → nodes_of (xs ++ ys) ≡ nodes_of xs ++ nodes_of ys
nodes_append [] ys = refl
nodes_append (k ∷ xs) ys = ap (λ (l : List ℕ). k.node ∷ l) (nodes_append xs ys)

length_nodes : (hops : List Hop) → length (nodes_of hops) ≡ length hops
length_nodes [] = refl
length_nodes (k ∷ hops) = let e = length_nodes hops in omega (arith, e)

distinct_prefix : (xs ys : List ℕ) → IsDistinct (xs ++ ys) → IsDistinct xs
distinct_prefix [] ys d = tt
distinct_prefix (x ∷ xs) ys d = ((λ h. d.0 (has_append_left xs ys x h)), distinct_prefix xs ys d.1)

-- a walk as far as it was found: it meets no node twice, and all its nodes are visited
pub record IsSought (n : SplitNetState) (from : Table) (hops : List Hop) (visited : List ℕ) : Type 0 where
  pub goes : Goes n from n.source hops (end_of n.source hops)
  pub distinct : IsDistinct (n.source ∷ nodes_of hops)
  pub visits : (x : ℕ) → Has (n.source ∷ nodes_of hops) x → HasBit visited x
  pub nodes : (x : ℕ) → Has (n.source ∷ nodes_of hops) x → Has n.graph.nodes x

pub sought_none : (n : SplitNetState) (from : Table) (hops : List Hop) (visited : List ℕ) → Has n.graph.nodes n.source
    → HasBit visited n.source → hops ≡ [] → IsSought n from hops visited
sought_none n from hops visited there bit none =
    subst (λ (l : List Hop). IsSought n from l visited) (sym none) (record {
      goes = refl;
      distinct = ((λ h. h), tt);
      visits = λ x h. elim h [ inl e ↦ subst (HasBit visited) e bit | inr w ↦ absurd w ];
      nodes = λ x h. elim h [ inl e ↦ subst (Has n.graph.nodes) e there | inr w ↦ absurd w ];
    })

-- the walk without its last steps
pub sought_less : (n : SplitNetState) (from : Table) (hops xs ys : List Hop) (visited : List ℕ) → hops ≡ xs ++ ys
    → IsSought n from hops visited → IsSought n from xs visited
sought_less n from hops xs ys visited is s =
    let e : nodes_of hops ≡ nodes_of xs ++ nodes_of ys = ap nodes_of is ∙ nodes_append xs ys in
    let within : (x : ℕ) → Has (n.source ∷ nodes_of xs) x → Has (n.source ∷ nodes_of hops) x =
    λ x h. subst (λ (l : List ℕ). Has (n.source ∷ l) x) (sym e)
    (has_append_left (n.source ∷ nodes_of xs) (nodes_of ys) x h) in
    record {
      goes = goes_prefix n from n.source (end_of n.source hops) xs ys
          (subst (λ (l : List Hop). Goes n from n.source l (end_of n.source hops)) is s.goes);
      distinct = distinct_prefix (n.source ∷ nodes_of xs) (nodes_of ys)
          (subst (λ (l : List ℕ). IsDistinct (n.source ∷ l)) e s.distinct);
      visits = λ x h. s.visits x (within x h);
      nodes = λ x h. s.nodes x (within x h);
    }

module _ (n : SplitNetState) (wide : ℕ) (placed : IsPlaced n wide) (from : Table) (hops : List Hop)
    (visited : List ℕ)
    (s : IsSought n from hops visited) where
  -- the node to which the walk leads
  pub sought_at : end_of n.source hops < wide
  sought_at = (placed.nodes (end_of n.source hops)).0 (s.nodes (end_of n.source hops) (end_has n.source hops))

  module _ (h : Hop) (next : IsNextHop n from (end_of n.source hops) visited h) where
    fresh : ¬ Has (n.source ∷ nodes_of hops) h.node
    fresh k = next.fresh (s.visits h.node k)

    all_nodes : (x : ℕ) → Has ((n.source ∷ nodes_of hops) ++ h.node ∷ []) x → Has n.graph.nodes x
    all_nodes x k = elim (has_append_cases (n.source ∷ nodes_of hops) (h.node ∷ []) x k) [
      | inl m ↦ s.nodes x m
      | inr m ↦ elim m [ inl e ↦ subst (Has n.graph.nodes) e next.node | inr w ↦ absurd w ]
    ]

    distinct_more : IsDistinct ((n.source ∷ nodes_of hops) ++ h.node ∷ [])
    distinct_more = distinct_push (n.source ∷ nodes_of hops) h.node s.distinct fresh

    -- a walk has fewer steps than there are nodes
    pub sought_room : length hops + 1 < wide
    sought_room =
        let b = distinct_length ((n.source ∷ nodes_of hops) ++ h.node ∷ []) n.graph.nodes distinct_more all_nodes in
        let l = length_push (n.source ∷ nodes_of hops) h.node in
        let e = length_nodes hops in
        let count = placed.count in
        omega (arith, b, l, e, count)

    pub sought_below : h.node < wide
    sought_below = (placed.nodes h.node).0 next.node

    same_nodes : n.source ∷ nodes_of (hops ++ h ∷ []) ≡ (n.source ∷ nodes_of hops) ++ h.node ∷ []
    same_nodes = ap (λ (l : List ℕ). n.source ∷ l) (nodes_append hops (h ∷ []))

    -- the walk with one more step leads to its node
    pub sought_walk : IsWalkBy n from (hops ++ h ∷ []) h.node
    sought_walk = record {
      goes = goes_push n from n.source hops h s.goes next.step;
      distinct = subst IsDistinct (sym same_nodes) distinct_more;
    }

    pub sought_more : (new : List ℕ) → ((q : ℕ) → HasBit new q ↔ ((q ≡ h.node) ⊎ HasBit visited q))
        → IsSought n from (hops ++ h ∷ []) new
    sought_more new put = record {
      goes = subst (Goes n from n.source (hops ++ h ∷ [])) (sym (end_push n.source hops h)) sought_walk.goes;
      distinct = sought_walk.distinct;
      visits = λ x k. elim (has_append_cases (n.source ∷ nodes_of hops) (h.node ∷ []) x
          (subst (λ (l : List ℕ). Has l x) same_nodes k)) [
            | inl m ↦ (put x).1 (inr (s.visits x m))
            | inr m ↦ elim m [ inl e ↦ (put x).1 (inl (sym e)) | inr w ↦ absurd w ]
          ];
      nodes = λ x k. all_nodes x (subst (λ (l : List ℕ). Has l x) same_nodes k);
    }

-- the place to which a step of a search's tree takes a link
pub tree_way_below : (n : SplitNetState) (wide : ℕ) (from : Table) (order parents : List ℕ) (ways : List (Option ℕ))
    (k w : ℕ) → IsPlaced n wide → IsTree n from order parents ways → 0 < k → k < length order
    → get_or ways k None ≡ Some w → w < wide
tree_way_below n wide from order parents ways k w placed t pos within is =
    let x = get_or order (get_or parents k 0) 0 in
    let y = get_or order k 0 in
    let s : IsWay n from x y w = subst (IsStepBy n from x y) is (t.step k pos within) in
    (placed.nodes w).0 (linked_node n.graph x w placed.net.graph s.0.0)

-- a step by a link whose open end is not visited
pub next_by_link : (n : SplitNetState) (wide : ℕ) (from : List (Option ℕ)) (x w node : ℕ) (visited : List ℕ)
    → IsPlaced n wide → IsTable wide from → Linked n.graph x w → ¬ Has n.avoided w → w ≢ n.source
    → node ≡ tip_of (table_of from) w → ¬ HasBit visited node
    → IsNextHop n (table_of from) x visited (record { node = node; way = Some w })
next_by_link n wide from x w node visited placed table link off ws tip fresh =
    let b = tip_below wide from w table ((placed.nodes w).0 (linked_node n.graph x w placed.net.graph link)) in
    record {
      step = ((link, off), ws, sym tip);
      node = (placed.nodes node).1 (omega (arith, tip, b));
      fresh = fresh;
    }
