-- The places of a group's members.
use Rattle.std.proofs.Common.{◌≡◌, ◌∙◌, ◌↔◌, ◌⊎◌, ℕ, zero, suc, ◌+◌, ◌-◌, ◌<◌, ◌≤◌, inl, inr, List, [], ◌∷◌, ◌++◌}
use Rattle.std.proofs.Common.{length, get_or, slice_index, map, take, refl, sym, ap, subst, arith}
use Rattle.std.proofs.lemmas.List.{length-map, take_more}
use Rattle.ov_ids.specs.Members.{Has, Ascends}
use Rattle.ov_ids.proofs.Members.{has_append_left, has_append_right, has_append_cases, has_place, all_member}
use Rattle.ov_ids.proofs.Members.{all_from_members, ordered_at}
use Rattle.ov_graph.specs.Links.{LinkGraph, IsGraph, IsWithinLimit, IsGroup}
use Rattle.ov_graph.specs.Paths.{node_at}
use Rattle.ov_graph.specs.Row.{HasBit}
use Rattle.ov_graph.proofs.BitRows.Read.{one_place}
use Rattle.ov_split.proofs.ByNames.Mapped.{has_map, map_has}
use Rattle.ov_flow.specs.Flow.{AreBitsOf}
use Rattle.ov_fans.specs.Pieces.{member_at}
use Rattle.ov_fans.specs.Code.Kept.{AreMemberPlaces}
use Rattle.ov_fans.proofs.PieceNets.Aimed.{place_below}
use Rattle.ov_fans.proofs.PieceNets.Ranks.{read_at}
use Rattle.ov_fans.proofs.PieceNets.Settling.{map_push}

-- these are places of nodes
abbrev pub AreBelow : LinkGraph → List ℕ → Type 0
AreBelow g places = (p : ℕ) → Has places p → p < length g.nodes

-- nodes ascend where their places do, and the other way round
pub ascend_nodes : (g : LinkGraph) (places : List ℕ) → Ascends g.nodes → AreBelow g places → Ascends places
    → Ascends (map (node_at g) places)
ascend_nodes g [] nodes below up = tt
ascend_nodes g (p ∷ ps) nodes below up = (
  all_from_members (λ x. node_at g p < x) (map (node_at g) ps) (λ x h.
      let r = map_has (node_at g) ps x h in
      let less : p < r.0 = all_member (λ y. p < y) ps r.0 up.0 r.1 in
      subst (λ (y : ℕ). node_at g p < y) r.2
      (ordered_at (λ x y. x < y) g.nodes p r.0 0 nodes less (below r.0 (inr r.1)))),
  ascend_nodes g ps nodes (λ r h. below r (inr h)) up.1,
)

ascend_places : (g : LinkGraph) (places : List ℕ) → Ascends g.nodes → AreBelow g places
    → Ascends (map (node_at g) places) → Ascends places
ascend_places g [] nodes below up = tt
ascend_places g (p ∷ ps) nodes below up = (
  all_from_members (λ r. p < r) ps (λ r h.
      place_below g.nodes p r nodes (below p (inl refl))
      (all_member (λ x. node_at g p < x) (map (node_at g) ps) (node_at g r) up.0 (has_map (node_at g) ps r h))
      (below r (inr h))),
  ascend_places g ps nodes (λ r h. below r (inr h)) up.1,
)

-- the nodes at places of members are a group
pub places_group : (g : LinkGraph) (places row : List ℕ) → AreMemberPlaces g places row
    → IsGroup g (map (node_at g) places)
places_group g places row kept = record {
  some_member = let l = kept.some_place in omega (arith, l, length-map places (node_at g));
  ascends = ascend_nodes g places kept.graph.nodes_ascend kept.below kept.ascend;
  nodes = λ x h.
      let r = map_has (node_at g) places x h in subst (Has g.nodes) r.2 (has_place g.nodes r.0 0 (kept.below r.0 r.1));
}

-- the row has the bits of the members' places
pub places_row : (g : LinkGraph) (places row : List ℕ) → AreMemberPlaces g places row
    → AreBitsOf g row (map (node_at g) places)
places_row g places row kept p = (
  (λ h. let k = (kept.bits p).0 h in (kept.below p k, has_map (node_at g) places p k)),
  (λ h.
      let r = map_has (node_at g) places (node_at g p) h.1 in
      let e : r.0 ≡ p = one_place g.nodes r.0 p kept.graph.nodes_ascend (kept.below r.0 r.1) h.0 r.2 in
      (kept.bits p).1 (subst (Has places) e r.1)),
)

node_there : (g : LinkGraph) (places : List ℕ) (i : ℕ) → i < length places
    → node_at g (slice_index places i) ≡ slice_index (map (node_at g) places) i
node_there g [] i l = absurd (omega arith)
node_there g (p ∷ ps) zero l = refl
node_there g (p ∷ ps) (suc i) l = node_there g ps i (omega arith)

-- at a place of the group stands the place of the member in the graph
pub record IsMemberPlace (g : LinkGraph) (q : List ℕ) (i p : ℕ) : Type 0 where
  pub below : p < length g.nodes
  pub there : node_at g p ≡ member_at q i

pub member_placed : (g : LinkGraph) (places row : List ℕ) (i p : ℕ) → AreMemberPlaces g places row → 1 ≤ i
    → i ≤ length (map (node_at g) places) → p ≡ get_or places (i - 1) p → IsMemberPlace g (map (node_at g) places) i p
member_placed g places row i p kept low high e =
    let before : i - 1 < length places = omega (arith, low, high, length-map places (node_at g)) in
    let f : p ≡ slice_index places (i - 1) = read_at places (i - 1) p before e in
    let below : p < length g.nodes = kept.below p (subst (Has places) (sym f) (has_place places (i - 1) 0 before)) in
    record {
      below = below;
      there = ap (λ (r : ℕ). node_at g r) f ∙ node_there g places (i - 1) before;
    }

-- the places of the first members
pub record AreMemberPlacesSoFar (g : LinkGraph) (q places row : List ℕ) : Type 0 where
  pub nodes : map (node_at g) places ≡ q
  pub below : AreBelow g places
  pub bits : (p : ℕ) → HasBit row p ↔ Has places p

-- no member yet
pub places_none : (g : LinkGraph) (places row : List ℕ) → places ≡ [] → ((p : ℕ) → ¬ HasBit row p)
    → AreMemberPlacesSoFar g [] places row
places_none g places row e none = record {
  nodes = ap (λ (xs : List ℕ). map (node_at g) xs) e;
  below = λ p h. absurd (subst (λ (xs : List ℕ). Has xs p) e h);
  bits = λ p. ((λ h. absurd (none p h)), (λ h. absurd (subst (λ (xs : List ℕ). Has xs p) e h)));
}

-- one more member
pub places_more : (g : LinkGraph) (q places old new : List ℕ) (i x p : ℕ) → p < length g.nodes → node_at g p ≡ x
    → i < length q → x ≡ slice_index q i → ((r : ℕ) → HasBit new r ↔ ((r ≡ p) ⊎ HasBit old r))
    → AreMemberPlacesSoFar g (take i q) places old → AreMemberPlacesSoFar g (take (i + 1) q) (places ++ p ∷ []) new
places_more g q places old new i x p l at m e put before = record {
  nodes =
      map_push (node_at g) places p ∙ ap (λ (xs : List ℕ). xs ++ node_at g p ∷ []) before.nodes
      ∙ ap (λ (y : ℕ). take i q ++ y ∷ []) (at ∙ e) ∙ sym (take_more q i 0 m);
  below = λ r h. elim (has_append_cases places (p ∷ []) r h) [
    | inl k ↦ before.below r k
    | inr k ↦ elim k [ inl f ↦ subst (λ (n : ℕ). n < length g.nodes) f l | inr w ↦ absurd w ]
  ];
  bits = λ r. (
    (λ h. elim ((put r).0 h) [
      | inl f ↦ has_append_right places (p ∷ []) r (inl (sym f))
      | inr b ↦ has_append_left places (p ∷ []) r ((before.bits r).0 b)
    ]),
    (λ h. elim (has_append_cases places (p ∷ []) r h) [
      | inl k ↦ (put r).1 (inr ((before.bits r).1 k))
      | inr k ↦ elim k [ inl f ↦ (put r).1 (inl (sym f)) | inr w ↦ absurd w ]
    ]),
  );
}

-- all members
pub places_all : (g : LinkGraph) (q places row : List ℕ) → IsGraph g → IsWithinLimit g → IsGroup g q
    → AreMemberPlacesSoFar g q places row → AreMemberPlaces g places row
places_all g q places row graph within group all = record {
  graph = graph;
  within = within;
  some_place =
      let l = group.some_member in
      let e = ap (λ (xs : List ℕ). length xs) all.nodes in omega (arith, l, e, length-map places (node_at g));
  ascend = ascend_places g places graph.nodes_ascend all.below
      (subst (λ (xs : List ℕ). Ascends xs) (sym all.nodes) group.ascends);
  below = all.below;
  bits = all.bits;
}
