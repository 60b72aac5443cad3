-- A net that is kept by rows of bits.
use Rattle.std.proofs.Common.{◌≡◌, ◌∙◌, ◌↔◌, ℕ, ◌+◌, ◌<◌, inl, inr, List, [], ◌∷◌, Option, Some, None}
use Rattle.std.proofs.Common.{map, length, refl, ◌≢◌, IfSome, IfNone, ap, subst, arith}
use Rattle.ov_ids.specs.Members.{Has}
use Rattle.ov_ids.proofs.Members.{has_place, same_ascending}
use Rattle.ov_graph.specs.Links.{LinkGraph, IsGraph, Linked}
use Rattle.ov_graph.specs.Joined.{IsNodeSet}
use Rattle.ov_graph.specs.Paths.{node_at}
use Rattle.ov_graph.specs.Neighbours.{AreLinkedAt, IsFirst, HoldsNoMore, IsOutside, IsWithin}
use Rattle.ov_graph.specs.Row.{HasBit}
use Rattle.ov_graph.specs.Row.{picked}
use Rattle.ov_graph.proofs.BitRows.Bits.{bit_moved, first_by}
use Rattle.ov_graph.proofs.BitRows.Read.{has_picked, picked_at, ascends_picked, none_picked}
use Rattle.ov_split.specs.SplitNetState.{IsSplitNet}
use Rattle.ov_split.specs.Places.{place_in, net_by_place, node_if}
use Rattle.ov_split.specs.Placed.{LinksOutside, LinksWithin}
use Rattle.ov_split.specs.Code.Rows.{net_kept, IsNetKept}
use Rattle.ov_split.proofs.ByNames.Mapped.{has_map, map_has}
use Rattle.ov_split.proofs.ByNames.ByPlace.{place_below, place_of_node, from_places, linked_by_place}

picked_node : (row nodes : List ℕ) (x : ℕ) → Has (picked row 0 nodes) x → Has nodes x
picked_node row nodes x h =
    let k = has_picked row 0 nodes x h in subst (Has nodes) k.node (has_place nodes k.place 0 k.below)

picked_set : (g : LinkGraph) (row : List ℕ) → IsGraph g → IsNodeSet g (picked row 0 g.nodes)
picked_set g row graph = record {
  ascends = ascends_picked row 0 g.nodes graph.nodes_ascend;
  nodes = picked_node row g.nodes;
}

-- what is kept is a net
pub net_of : (g : LinkGraph) (avoided : List ℕ) (source : ℕ) (targets : List ℕ) → IsNetKept g avoided source targets
    → IsSplitNet (net_kept g avoided source targets)
net_of g avoided source targets kept =
    let up = kept.graph.nodes_ascend in
    record {
      graph = kept.graph;
      source = has_place g.nodes source 0 kept.source_below;
      avoided = picked_set g avoided kept.graph;
      targets = picked_set g targets kept.graph;
      not_avoided = λ h. kept.not_avoided ((picked_at avoided g.nodes source up kept.source_below).0 h);
      no_target = λ h. kept.no_target ((picked_at targets g.nodes source up kept.source_below).0 h);
    }

-- the bits of a row are the places of what is picked by it
bits_placed : (g : LinkGraph) (row : List ℕ) → IsGraph g → ((p : ℕ) → HasBit row p → p < length g.nodes) → (p : ℕ)
    → HasBit row p ↔ Has (map (place_in g) (picked row 0 g.nodes)) p
bits_placed g row graph below p =
    let up = graph.nodes_ascend in
    let set = picked_set g row graph in (
      (λ b.
          let l = below p b in
          subst (Has (map (place_in g) (picked row 0 g.nodes))) (place_of_node g up p l)
          (has_map (place_in g) (picked row 0 g.nodes) (node_at g p) ((picked_at row g.nodes p up l).1 b))),
      (λ h.
          let q = map_has (place_in g) (picked row 0 g.nodes) p h in
          let l = subst (λ (i : ℕ). i < length g.nodes) q.2 (place_below g up q.0 (set.nodes q.0 q.1)) in
          (picked_at row g.nodes p up l).0 (from_places g graph (picked row 0 g.nodes) set p h)),
    )

-- what is first, or no more, stays so under another name
pub first_renamed : (r : Option ℕ) (P Q : ℕ → Type 0) (from : ℕ) → ((q : ℕ) → P q ↔ Q q) → IfSome r (IsFirst P from)
    → IfSome r (IsFirst Q from)
first_renamed None P Q from same h = tt
first_renamed (Some p) P Q from same h = first_by P Q from p same h

pub none_renamed : (r : Option ℕ) (P Q : ℕ → Type 0) (from : ℕ) → ((q : ℕ) → P q ↔ Q q)
    → IfNone r (HoldsNoMore P from) → IfNone r (HoldsNoMore Q from)
none_renamed None P Q from same h = λ q l m. h q l ((same q).1 m)
none_renamed (Some p) P Q from same h = tt

module _ (g : LinkGraph) (avoided : List ℕ) (source : ℕ) (targets : List ℕ)
    (kept : IsNetKept g avoided source targets) where
  pub source_placed : (net_by_place (net_kept g avoided source targets)).source ≡ source
  unfolding net_by_place
  source_placed = place_of_node g kept.graph.nodes_ascend source kept.source_below

  pub targets_placed : (p : ℕ) → HasBit targets p ↔ Has (net_by_place (net_kept g avoided source targets)).targets p
  unfolding net_by_place
  targets_placed = bits_placed g targets kept.graph kept.targets_below

  pub avoided_placed : (p : ℕ) → HasBit avoided p ↔ Has (net_by_place (net_kept g avoided source targets)).avoided p
  unfolding net_by_place
  avoided_placed = bits_placed g avoided kept.graph kept.avoided_below

  -- the places of the neighbours of the node at a place
  linked_placed : (p : ℕ) → p < length g.nodes → (q : ℕ)
      → AreLinkedAt g p q ↔ Linked (net_by_place (net_kept g avoided source targets)).graph p q
  unfolding net_by_place
  linked_placed p l q =
      let by = linked_by_place g kept.graph p q in
      ((λ b. by.1 (l, b.0, b.1)), (λ h. let k = by.0 h in (k.1, k.2)))

  pub outside_placed : (set : List ℕ) (p : ℕ) → p < length g.nodes → (q : ℕ)
      → IsOutside g p set q ↔ LinksOutside (net_by_place (net_kept g avoided source targets)) p set q
  outside_placed set p l q =
      let m = linked_placed p l q in ((λ h. (m.0 h.0, h.1)), (λ h. (m.1 h.0, h.1)))

  pub within_placed : (set : List ℕ) (p : ℕ) → p < length g.nodes → (q : ℕ)
      → IsWithin g p set q ↔ LinksWithin (net_by_place (net_kept g avoided source targets)) p set q
  within_placed set p l q =
      let m = linked_placed p l q in ((λ h. (m.0 h.0, h.1)), (λ h. (m.1 h.0, h.1)))

-- the node at the one place whose bit is set
pub one_picked : (g : LinkGraph) (row : List ℕ) (place : Option ℕ) → IsGraph g
    → ((p : ℕ) → HasBit row p → p < length g.nodes) → ((q : ℕ) → HasBit row q ↔ (place ≡ Some q))
    → picked row 0 g.nodes ≡ node_if g place
one_picked g row None graph below bits = none_picked row 0 g.nodes (λ q l b. let e = (bits q).0 b in absurd cc)
one_picked g row (Some p) graph below bits =
    let up = graph.nodes_ascend in
    let l = below p ((bits p).1 refl) in
    same_ascending (picked row 0 g.nodes) (node_at g p ∷ []) (ascends_picked row 0 g.nodes up) (tt, tt)
    (λ x h.
    let k = has_picked row 0 g.nodes x h in
    let e = (bits k.place).0 (bit_moved row (0 + k.place) k.place (omega arith) k.bit) in
    let same : p ≡ k.place = cc in
    inl (ap (node_at g) same ∙ k.node))
    (λ x h. elim h [
      | inl e ↦ subst (Has (picked row 0 g.nodes)) e ((picked_at row g.nodes p up l).1 ((bits p).1 refl))
      | inr w ↦ absurd w
    ])

pub some_same : (a b : ℕ) → Some a ≡ Some b → a ≡ b
some_same a b e = cc

-- a place that is given is that of a node other than the source
abbrev pub IsOther : LinkGraph → ℕ → ℕ → Type 0
IsOther g source p = (p < length g.nodes) × (p ≢ source)

-- the parts of a net are kept so
pub kept_of : (g : LinkGraph) (avoided : List ℕ) (source : ℕ) (targets : List ℕ) (place : Option ℕ) → IsGraph g
    → source < length g.nodes → IfSome place (IsOther g source) → ((p : ℕ) → HasBit targets p → IsOther g source p)
    → ((q : ℕ) → HasBit avoided q ↔ (place ≡ Some q)) → IsNetKept g avoided source targets
kept_of g avoided source targets place graph below other others bits =
    let avoid : (p : ℕ) → HasBit avoided p → IsOther g source p = λ p b.
    subst (λ (o : Option ℕ). IfSome o (IsOther g source)) ((bits p).0 b) other in
    record {
      graph = graph;
      source_below = below;
      avoided_below = λ p b. (avoid p b).0;
      targets_below = λ p b. (others p b).0;
      not_avoided = λ b. (avoid source b).1 refl;
      no_target = λ b. (others source b).1 refl;
    }
