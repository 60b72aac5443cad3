-- A search that found no path leaves the nearest least cut and its side.
use Rattle.std.proofs.Common.{◌≡◌, ◌∙◌, ◌↔◌, ℕ, zero, suc, ◌+◌, ◌*◌, ◌<◌, ◌≤◌, inl, inr, List, [], ◌∷◌}
use Rattle.std.proofs.Common.{map, length, get_or, sym, subst, arith}
use Rattle.std.proofs.lemmas.Bool.{cases_eq}
use Rattle.std.proofs.lemmas.List.{get_or_push, get_or_append_left}
use Rattle.ov_ids.specs.Members.{Has}
use Rattle.ov_ids.proofs.Members.{has_or_not, has_place, same_ascending, ascends_distinct}
use Rattle.ov_graph.specs.Links.{LinkGraph, IsGraph}
use Rattle.ov_graph.specs.Paths.{node_at}
use Rattle.ov_graph.specs.Row.{HasBit}
use Rattle.ov_graph.specs.Row.{picked}
use Rattle.ov_graph.proofs.BitRows.Bits.{bit_moved, AreWithout}
use Rattle.ov_graph.proofs.EvenTest.Filtered.{linked_node}
use Rattle.ov_graph.proofs.BitRows.Read.{has_picked, in_picked, ascends_picked}
use Rattle.ov_split.specs.SplitNetState.{SplitNetState, IsSplitNet, IsFanOf}
use Rattle.ov_split.specs.Code.Residual.{Table, IsFlow, IsBoundary}
use Rattle.ov_split.specs.Places.{places, net_by_place}
use Rattle.ov_split.specs.Placed.{IsPlaced}
use Rattle.ov_split.proofs.ByNames.Mapped.{has_map, map_has, length_map, ordered_map}
use Rattle.ov_split.proofs.ByNames.ByPlace.{places_ascend, places_count, node_rises, fan_by_place, nearest_by_place}
use Rattle.ov_split.proofs.ByNames.ByPlace.{side_by_place}
use Rattle.ov_split.proofs.FanTheorem.Near.{boundary_is_nearest}
use Rattle.ov_split.proofs.Augmenting.Prune.{flow_is_fan}
use Rattle.ov_split.proofs.FanTheorem.Sole.{cut_bounds_fan}
use Rattle.ov_flow.specs.declared.search_tree.Tree.{Tree}
use Rattle.ov_flow.specs.Flow.{IsFull}
use Rattle.ov_flow.specs.Code.Reached.{IsGrown, IsSwept}

-- the item at each place of the list of places
place_at : (n k : ℕ) → k < n → get_or (places n) k 0 ≡ k
unfolding places
place_at zero k l = absurd (omega arith)
place_at (suc n) k l =
    let c = places_count n in
    elim (cases_eq k n) [
      | inl e ↦ get_or_push (places n) n 0 k (omega (arith, c, e)) ∙ sym e
      | inr ne ↦ get_or_append_left (places n) (n ∷ []) 0 k (omega (arith, c, l, ne)) ∙ place_at n k (omega arith)
    ]

-- the places whose bits are set
pub in_row : (row : List ℕ) (n p : ℕ) → Has (picked row 0 (places n)) p → (p < n) × HasBit row p
in_row row n p h =
    let k = has_picked row 0 (places n) p h in
    let c = places_count n in
    let l : k.place < n = let b = k.below in omega (arith, b, c) in
    let e : k.place ≡ p = sym (place_at n k.place l) ∙ k.node in
    (omega (arith, l, e), bit_moved row (0 + k.place) p (omega (arith, e)) k.bit)

pub from_row : (row : List ℕ) (n p : ℕ) → p < n → HasBit row p → Has (picked row 0 (places n)) p
from_row row n p l h =
    let c = places_count n in
    subst (Has (picked row 0 (places n))) (place_at n p l)
    (in_picked row 0 (places n) p (omega (arith, c, l)) (bit_moved row p (0 + p) (omega arith) h))

-- the nodes of these places
pub nodes_of_row : (g : LinkGraph) (row : List ℕ) → IsGraph g
    → map (node_at g) (picked row 0 (places (length g.nodes))) ≡ picked row 0 g.nodes
nodes_of_row g row graph =
    let n = length g.nodes in
    let ps = picked row 0 (places n) in
    let up = graph.nodes_ascend in
    same_ascending (map (node_at g) ps) (picked row 0 g.nodes)
    (ordered_map (λ x y. x < y) (λ x y. x < y) (node_at g) ps
    (λ x y hx hy l. node_rises g up x y (in_row row n y hy).0 l) (ascends_picked row 0 (places n) (places_ascend n)))
    (ascends_picked row 0 g.nodes up)
    (λ x h.
    let q = map_has (node_at g) ps x h in
    let b = in_row row n q.0 q.1 in
    subst (Has (picked row 0 g.nodes)) q.2
    (in_picked row 0 g.nodes q.0 b.0 (bit_moved row q.0 (0 + q.0) (omega arith) b.1)))
    (λ x h.
    let k = has_picked row 0 g.nodes x h in
    subst (Has (map (node_at g) ps)) k.node (has_map (node_at g) ps k.place
    (from_row row n k.place k.below (bit_moved row (0 + k.place) k.place (omega arith) k.bit))))

module _ (n : SplitNetState) (wide words : ℕ) (placed : IsPlaced n wide) (enough : wide ≤ 64 * words) (from : Table)
    {W : ℕ} (t : Tree W)
    (avoided next cut : List ℕ) (grown : IsGrown n from t) (swept : IsSwept n from t)
    (off : (p : ℕ) → HasBit avoided p ↔ Has n.avoided p) (near : AreWithout t.seen t.reached words next)
    (bits : AreWithout next avoided words cut) where
  in_cut : (w : ℕ) → Has (picked cut 0 (places wide)) w → HasBit t.seen w × ¬ Has t.order.items w × ¬ Has n.avoided w
  in_cut w h =
      let b = (bits w).0 (in_row cut wide w h).1 in
      let c = (near w).0 b.1 in
      (c.1, λ k. c.2 ((grown.marked w).1 k), λ k. b.2 ((off w).1 k))

  pub boundary_of : IsBoundary n t.order.items (picked cut 0 (places wide))
  boundary_of = record {
    distinct = ascends_distinct (picked cut 0 (places wide)) (ascends_picked cut 0 (places wide) (places_ascend wide));
    out = λ w h. (in_cut w h).1;
    behind = λ w h.
        let c = in_cut w h in
        elim (grown.sees w c.0) [
          | inl a ↦ absurd (elim a [
            | inl o ↦ c.2 o
            | inr s ↦ c.1 (subst (Has t.order.items) (grown.is_tree.root ∙ sym s)
                (has_place t.order.items 0 0 grown.is_tree.some))
          ])
          | inr k ↦ (k.x, k.behind, k.free)
        ];
    all = λ x w h f. elim (has_or_not t.order.items w) [
      | inl k ↦ inl k
      | inr o ↦
          let l = (placed.nodes w).0 (linked_node n.graph x w placed.net.graph f.0) in
          let b : w < 64 * words = omega (arith, l, enough) in
          let next_bit = (near w).1 (b, swept.links x w h f.0, λ k. o ((grown.marked w).0 k)) in
          inr (from_row cut wide w l ((bits w).1 (b, next_bit, λ k. f.1 ((off w).0 k))))
    ];
  }

  pub side_of : (x : ℕ) → Has (picked t.reached 0 (places wide)) x ↔ Has t.order.items x
  side_of x = (
    (λ h. (grown.marked x).0 (in_row t.reached wide x h).1),
    (λ h. from_row t.reached wide x ((placed.nodes x).0 (grown.is_tree.nodes x h)) ((grown.marked x).1 h)),
  )

  pub cut_within : (w : ℕ) → HasBit cut w → w < wide
  cut_within w h =
      let b = (bits w).0 h in
      let c = (near w).0 b.1 in
      elim (grown.sees w c.1) [
        | inl a ↦ absurd (elim a [
          | inl o ↦ b.2 ((off w).1 o)
          | inr s ↦ c.2 ((grown.marked w).1 (subst (Has t.order.items) (grown.is_tree.root ∙ sym s)
              (has_place t.order.items 0 0 grown.is_tree.some)))
        ])
        | inr k ↦ (placed.nodes w).0 (linked_node n.graph k.x w placed.net.graph k.free.0)
      ]

  pub side_within : (x : ℕ) → HasBit t.reached x → x < wide
  side_within x h = (placed.nodes x).0 (grown.is_tree.nodes x ((grown.marked x).0 h))

-- the same by ids
pub stuck_full : (n : SplitNetState) (words : ℕ) → IsSplitNet n → IsPlaced (net_by_place n) (length n.graph.nodes)
    → length n.graph.nodes ≤ 64 * words → (from : Table) (ends : List ℕ) {W : ℕ} (t : Tree W)
    (avoided next cut : List ℕ)
    → IsFlow (net_by_place n) from ends → IsGrown (net_by_place n) from t → IsSwept (net_by_place n) from t
    → ((p : ℕ) → HasBit avoided p ↔ Has (net_by_place n).avoided p) → AreWithout t.seen t.reached words next
    → AreWithout next avoided words cut
    → IsFull n (length ends) (picked cut 0 n.graph.nodes) (picked t.reached 0 n.graph.nodes)
stuck_full n words net placed enough from ends t avoided next cut flow grown swept off near bits =
    let m = net_by_place n in
    let wide = length n.graph.nodes in
    let s = picked cut 0 (places wide) in
    let side = picked t.reached 0 (places wide) in
    let b = boundary_of m wide words placed enough from t avoided next cut grown swept off near bits in
    let is_side = side_of m wide words placed enough from t avoided next cut grown swept off near bits in
    let r = boundary_is_nearest m placed.net from ends flow t.order.items swept.stuck s b
    (ascends_picked cut 0 (places wide) (places_ascend wide)) in
    let at_side = side_by_place n net s side r.nearest.least.cut.set (record {
      set = record {
        ascends = ascends_picked t.reached 0 (places wide) (places_ascend wide);
        nodes = λ x h. (placed.nodes x).1 (in_row t.reached wide x h).0;
      };
      each = λ x. ((λ h. (r.side x).0 ((is_side x).0 h)), (λ h. (is_side x).1 ((r.side x).1 h)));
    }) in
    let nearest = nearest_by_place n net s r.nearest in
    let size : length (map (node_at n.graph) s) ≡ length ends = length_map (node_at n.graph) s ∙ r.count in
    let full : IsFull n (length ends) (map (node_at n.graph) s) (map (node_at n.graph) side) = record {
      nearest = nearest;
      size = size;
      side_of = at_side;
      no_more = λ l less f.
          let k = cut_bounds_fan n l f.0 (map (node_at n.graph) s) f.1 nearest.least.cut in
          absurd (omega (arith, k, size, less));
    } in
    subst (λ (c : List ℕ). IsFull n (length ends) c (picked t.reached 0 n.graph.nodes))
    (nodes_of_row n.graph cut net.graph)
    (subst (λ (c : List ℕ). IsFull n (length ends) (map (node_at n.graph) s) c)
    (nodes_of_row n.graph t.reached net.graph) full)

-- what is held is a fan
pub fan_held : (n : SplitNetState) → IsSplitNet n → IsPlaced (net_by_place n) (length n.graph.nodes)
    → (from : Table) (ends : List ℕ)
    → IsFlow (net_by_place n) from ends → (paths : List (List ℕ)) × IsFanOf n (length ends) paths
fan_held n net placed from ends flow =
    let r = flow_is_fan (net_by_place n) placed.net from ends flow in
    (map (map (node_at n.graph)) r.0, fan_by_place n net (length ends) r.0 r.1)
