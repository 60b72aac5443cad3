-- A net by places has the same fans, cuts and sides as the net by ids.
use Rattle.std.proofs.Common.{◌≡◌, ◌∙◌, ◌↔◌, ℕ, zero, suc, ◌<◌, inl, inr, List, [], ◌∷◌, ◌++◌, map, length, refl}
use Rattle.std.proofs.Common.{sym, ap, ap₂, subst, arith, eqb-true, length-append}
use Rattle.std.proofs.lemmas.Bool.{cases_order}
use Rattle.std.specs.List.{AllByRecursion}
use Rattle.ov_ids.specs.Members.{Has, Ascends}
use Rattle.ov_ids.specs.Sets.{has}
use Rattle.ov_ids.proofs.Members.{has_append_left, has_append_right, has_append_cases, has_tested}
use Rattle.ov_ids.proofs.Members.{has_place, ordered_at}
use Rattle.ov_ids.proofs.Sets.{has_at, count_below-lt-length}
use Rattle.ov_graph.specs.Links.{LinkGraph, IsGraph, IsLink, Linked, Precedes}
use Rattle.ov_graph.specs.Joined.{IsNodeSet}
use Rattle.ov_graph.specs.Paths.{node_at}
use Rattle.ov_graph.proofs.EvenTest.Filtered.{linked_node}
use Rattle.ov_graph.proofs.BitRows.Read.{one_place}
use Rattle.ov_graph.proofs.EvenTest.Walks.{linked_sym}
use Rattle.ov_split.specs.SplitNetState.{SplitNetState, IsSplitNet, IsFanOf, IsNearestCut, IsSideOf}
use Rattle.ov_split.specs.Places.{places, place_in, link_by_place, graph_by_place, net_by_place}
use Rattle.ov_split.proofs.ByNames.Mapped.{has_map, map_has, ordered_map}
use Rattle.ov_split.proofs.ByNames.Renamed.{IsRenamed, fan_renamed, nearest_renamed, side_renamed}

pub has_places : (n p : ℕ) → p < n → Has (places n) p
unfolding places
has_places zero p l = absurd (omega arith)
has_places (suc n) p l = elim (cases_order p n) [
  | inl e ↦ has_append_right (places n) (n ∷ []) p (inl (sym e))
  | inr (inl k) ↦ has_append_left (places n) (n ∷ []) p (has_places n p k)
  | inr (inr k) ↦ absurd (omega arith)
]

pub places_below : (n p : ℕ) → Has (places n) p → p < n
unfolding places
places_below zero p h = absurd h
places_below (suc n) p h = elim (has_append_cases (places n) (n ∷ []) p h) [
  | inl k ↦ let l = places_below n p k in omega (arith, l)
  | inr k ↦ elim k [ inl e ↦ omega (arith, e) | inr w ↦ absurd w ]
]

pub places_count : (n : ℕ) → length (places n) ≡ n
unfolding places
places_count zero = refl
places_count (suc n) = omega (arith, length-append (places n) (n ∷ []), places_count n)

all_push : (P : ℕ → Type 0) (xs : List ℕ) (y : ℕ) → AllByRecursion P xs → P y → AllByRecursion P (xs ++ y ∷ [])
all_push P [] y a p = (p, tt)
all_push P (x ∷ xs) y a p = (a.0, all_push P xs y a.1 p)

ascends_push : (xs : List ℕ) (y : ℕ) → Ascends xs → ((x : ℕ) → Has xs x → x < y) → Ascends (xs ++ y ∷ [])
ascends_push [] y up below = (tt, tt)
ascends_push (x ∷ xs) y up below =
    (all_push (λ z. x < z) xs y up.0 (below x (inl refl)), ascends_push xs y up.1 (λ z h. below z (inr h)))

pub places_ascend : (n : ℕ) → Ascends (places n)
unfolding places
places_ascend zero = tt
places_ascend (suc n) = ascends_push (places n) n (places_ascend n) (places_below n)

-- nodes and their places
module _ (g : LinkGraph) (up : Ascends g.nodes) where
  pub place_below : (x : ℕ) → Has g.nodes x → place_in g x < length g.nodes
  place_below x h = count_below-lt-length x g.nodes ((has_tested g.nodes x (has g.nodes x) refl).1 h)

  pub node_of_place : (x : ℕ) → Has g.nodes x → node_at g (place_in g x) ≡ x
  node_of_place x h =
      eqb-true (node_at g (place_in g x)) x
      (has_at x g.nodes 0 up (place_below x h) ∙ (has_tested g.nodes x (has g.nodes x) refl).1 h)

  pub node_there : (p : ℕ) → p < length g.nodes → Has g.nodes (node_at g p)
  node_there p l = has_place g.nodes p 0 l

  pub place_of_node : (p : ℕ) → p < length g.nodes → place_in g (node_at g p) ≡ p
  place_of_node p l =
      let h = node_there p l in
      one_place g.nodes (place_in g (node_at g p)) p up (place_below (node_at g p) h) l (node_of_place (node_at g p) h)

  pub node_rises : (p q : ℕ) → q < length g.nodes → p < q → node_at g p < node_at g q
  node_rises p q l less = ordered_at (λ x y. x < y) g.nodes p q 0 up less l

  pub place_rises : (x y : ℕ) → Has g.nodes x → Has g.nodes y → x < y → place_in g x < place_in g y
  place_rises x y hx hy less =
      let e = node_of_place x hx in
      let f = node_of_place y hy in
      elim (cases_order (place_in g x) (place_in g y)) [
        | inl s ↦ absurd (let t = ap (node_at g) s in omega (arith, e, f, t, less))
        | inr (inl k) ↦ k
        | inr (inr k) ↦
            let t = node_rises (place_in g y) (place_in g x) (place_below x hx) k in
            absurd (omega (arith, e, f, t, less))
      ]

-- the links by place
module _ (g : LinkGraph) (graph : IsGraph g) where
  link_in : (p q : ℕ) → Has (graph_by_place g).links (p, q)
      → (p < length g.nodes) × (q < length g.nodes) × Has g.links (node_at g p, node_at g q)
  unfolding graph_by_place
  link_in p q h =
      let l = map_has (link_by_place g) g.links (p, q) h in
      let ends = graph.joins l.0 l.1 in
      let first : place_in g l.0.0 ≡ p = ap (λ (m : ℕ × ℕ). m.0) l.2 in
      let second : place_in g l.0.1 ≡ q = ap (λ (m : ℕ × ℕ). m.1) l.2 in
      let e = sym (node_of_place g graph.nodes_ascend l.0.0 ends.1) ∙ ap (node_at g) first in
      let f = sym (node_of_place g graph.nodes_ascend l.0.1 ends.2) ∙ ap (node_at g) second in (
        subst (λ (i : ℕ). i < length g.nodes) first (place_below g graph.nodes_ascend l.0.0 ends.1),
        subst (λ (i : ℕ). i < length g.nodes) second (place_below g graph.nodes_ascend l.0.1 ends.2),
        subst (Has g.links) (ap₂ (λ (a b : ℕ). (a, b)) e f) l.1,
      )

  in_link : (p q : ℕ) → p < length g.nodes → q < length g.nodes → Has g.links (node_at g p, node_at g q)
      → Has (graph_by_place g).links (p, q)
  unfolding graph_by_place
  in_link p q l m h =
      let e = place_of_node g graph.nodes_ascend p l in
      let f = place_of_node g graph.nodes_ascend q m in
      subst (Has (map (link_by_place g) g.links)) (ap₂ (λ (a b : ℕ). (a, b)) e f)
      (has_map (link_by_place g) g.links (node_at g p, node_at g q) h)

  -- two places are linked where their nodes are
  pub linked_by_place : (p q : ℕ) → Linked (graph_by_place g) p q
      ↔ ((p < length g.nodes) × (q < length g.nodes) × Linked g (node_at g p) (node_at g q))
  unfolding Linked
  linked_by_place p q = (
    (λ h. elim h [
      | inl k ↦ let l = link_in p q k in (l.0, l.1, inl l.2)
      | inr k ↦ let l = link_in q p k in (l.1, l.0, inr l.2)
    ]),
    (λ h. elim h.2 [ inl k ↦ inl (in_link p q h.0 h.1 k) | inr k ↦ inr (in_link q p h.1 h.0 k) ]),
  )

  -- two nodes are linked where their places are
  pub linked_places : (a b : ℕ) → Linked g a b → Linked (graph_by_place g) (place_in g a) (place_in g b)
  linked_places a b l =
      let up = graph.nodes_ascend in
      let hb = linked_node g a b graph l in
      let ha = linked_node g b a graph (linked_sym g a b l) in
      (linked_by_place (place_in g a) (place_in g b)).1 (
        place_below g up a ha,
        place_below g up b hb,
        subst (λ (x : ℕ). Linked g x (node_at g (place_in g b))) (sym (node_of_place g up a ha))
            (subst (Linked g a) (sym (node_of_place g up b hb)) l),
      )

  pub node_by_place : (p : ℕ) → Has (graph_by_place g).nodes p ↔ (p < length g.nodes)
  unfolding graph_by_place
  node_by_place p = (places_below (length g.nodes) p, has_places (length g.nodes) p)

  -- the graph by place is a graph
  pub graph_placed : IsGraph (graph_by_place g)
  unfolding graph_by_place
  graph_placed =
      let up = graph.nodes_ascend in
      record {
        nodes_ascend = places_ascend (length g.nodes);
        links_ascend = ordered_map Precedes Precedes (link_by_place g) g.links
            (λ l m hl hm before. elim before [
              | inl k ↦ inl (place_rises g up l.0 m.0 (graph.joins l hl).1 (graph.joins m hm).1 k)
              | inr k ↦ inr
                  (ap (place_in g) k.0, place_rises g up l.1 m.1 (graph.joins l hl).2 (graph.joins m hm).2 k.1)
            ]) graph.links_ascend;
        joins = λ l h.
            let k = map_has (link_by_place g) g.links l h in
            let ends = graph.joins k.0 k.1 in
            subst (IsLink (places (length g.nodes))) k.2 (
              place_rises g up k.0.0 k.0.1 ends.1 ends.2 ends.0,
              has_places (length g.nodes) (place_in g k.0.0) (place_below g up k.0.0 ends.1),
              has_places (length g.nodes) (place_in g k.0.1) (place_below g up k.0.1 ends.2),
            );
      }

  -- the places of a set of nodes
  set_placed : (s : List ℕ) → IsNodeSet g s → IsNodeSet (graph_by_place g) (map (place_in g) s)
  set_placed s set = record {
    ascends = ordered_map (λ x y. x < y) (λ x y. x < y) (place_in g) s
        (λ x y hx hy l. place_rises g graph.nodes_ascend x y (set.nodes x hx) (set.nodes y hy) l) set.ascends;
    nodes = λ p h.
        let q = map_has (place_in g) s p h in
        (node_by_place p).1 (subst (λ (i : ℕ). i < length g.nodes) q.2
        (place_below g graph.nodes_ascend q.0 (set.nodes q.0 q.1)));
  }

  -- a node whose place is one of a set's places is in the set
  pub from_places : (s : List ℕ) → IsNodeSet g s → (p : ℕ) → Has (map (place_in g) s) p → Has s (node_at g p)
  from_places s set p h =
      let q = map_has (place_in g) s p h in
      subst (Has s) (sym (node_of_place g graph.nodes_ascend q.0 (set.nodes q.0 q.1)) ∙ ap (node_at g) q.2) q.1

module _ (n : SplitNetState) (net : IsSplitNet n) where
  up : Ascends n.graph.nodes
  up = net.graph.nodes_ascend

  -- a set without the source does not have the source's place
  source_out : (s : List ℕ) → IsNodeSet n.graph s → ¬ Has s n.source
      → ¬ Has (map (place_in n.graph) s) (place_in n.graph n.source)
  source_out s set off h =
      off (subst (Has s) (node_of_place n.graph up n.source net.source)
      (from_places n.graph net.graph s set (place_in n.graph n.source) h))

  -- the net by place is a net
  pub net_placed : IsSplitNet (net_by_place n)
  unfolding net_by_place
  net_placed = record {
    graph = graph_placed n.graph net.graph;
    source = (node_by_place n.graph net.graph (place_in n.graph n.source)).1
        (place_below n.graph up n.source net.source);
    avoided = set_placed n.graph net.graph n.avoided net.avoided;
    targets = set_placed n.graph net.graph n.targets net.targets;
    not_avoided = source_out n.avoided net.avoided net.not_avoided;
    no_target = source_out n.targets net.targets net.no_target;
  }

  -- its nodes are places, and linked where the nodes are
  pub placed_node : (p : ℕ) → Has (net_by_place n).graph.nodes p ↔ (p < length n.graph.nodes)
  unfolding net_by_place
  placed_node = node_by_place n.graph net.graph

  pub placed_link : (p q : ℕ) → Linked (net_by_place n).graph p q ↔ ((p < length n.graph.nodes)
      × (q < length n.graph.nodes) × Linked n.graph (node_at n.graph p) (node_at n.graph q))
  unfolding net_by_place
  placed_link = linked_by_place n.graph net.graph

  pub placed_count : length (net_by_place n).graph.nodes ≡ length n.graph.nodes
  unfolding net_by_place graph_by_place
  placed_count = places_count (length n.graph.nodes)

  -- the two nets differ only by the names of their nodes
  pub placed : IsRenamed (net_by_place n) n (node_at n.graph) (place_in n.graph)
  unfolding net_by_place
  placed =
      let g = n.graph in
      let below : (p : ℕ) → Has (graph_by_place g).nodes p → p < length g.nodes =
      λ p h. (node_by_place g net.graph p).0 h in
      record {
        net = net_placed;
        back_net = net;
        nodes = λ p h. node_there g up p (below p h);
        back_nodes = λ v h. (node_by_place g net.graph (place_in g v)).1 (place_below g up v h);
        there = λ p h. place_of_node g up p (below p h);
        back = λ v h. node_of_place g up v h;
        rises = λ p q hp hq l. node_rises g up p q (below q hq) l;
        back_rises = λ u v hu hv l. place_rises g up u v hu hv l;
        links = λ p q l. ((linked_by_place g net.graph p q).0 l).2;
        back_links = λ u v l. linked_places g net.graph u v l;
        source = node_of_place g up n.source net.source;
        targets = λ p h. from_places g net.graph n.targets net.targets p h;
        back_targets = λ v h. has_map (place_in g) n.targets v h;
        avoided = λ p h. from_places g net.graph n.avoided net.avoided p h;
        back_avoided = λ v h. has_map (place_in g) n.avoided v h;
      }

  -- a fan by place
  pub fan_by_place : (k : ℕ) (paths : List (List ℕ)) → IsFanOf (net_by_place n) k paths
      → IsFanOf n k (map (map (node_at n.graph)) paths)
  fan_by_place = fan_renamed (net_by_place n) n (node_at n.graph) (place_in n.graph) placed

  -- a nearest cut by place
  pub nearest_by_place : (s : List ℕ) → IsNearestCut (net_by_place n) s → IsNearestCut n (map (node_at n.graph) s)
  nearest_by_place = nearest_renamed (net_by_place n) n (node_at n.graph) (place_in n.graph) placed

  -- the side of a cut by place
  pub side_by_place : (s side : List ℕ) → IsNodeSet (net_by_place n).graph s → IsSideOf (net_by_place n) s side
      → IsSideOf n (map (node_at n.graph) s) (map (node_at n.graph) side)
  side_by_place = side_renamed (net_by_place n) n (node_at n.graph) (place_in n.graph) placed
