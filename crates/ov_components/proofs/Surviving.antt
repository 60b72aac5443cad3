-- The places of the nodes that are not among the first ids of a cut, with one id more.
use Rattle.std.proofs.Common.{◌≡◌, ◌≢◌, ◌∙◌, ◌↔◌, ℕ, ◌<◌, List, [], ◌∷◌, ◌++◌, length, inl, inr, sym, ap}
use Rattle.std.proofs.Common.{subst}
use Rattle.ov_ids.specs.Members.{Has}
use Rattle.ov_ids.proofs.Members.{has_append_left, has_append_right, has_append_cases, has_place}
use Rattle.ov_graph.specs.Links.{LinkGraph, IsGraph}
use Rattle.ov_graph.specs.Paths.{node_at}
use Rattle.ov_graph.specs.Row.{HasBit}
use Rattle.ov_graph.proofs.BitRows.Read.{one_place}

-- the row has the places of the nodes that are not in xs
abbrev pub AreOutside : LinkGraph → List ℕ → List ℕ → Type 0
AreOutside g xs row = (p : ℕ) → HasBit row p ↔ ((p < length g.nodes) × ¬ Has xs (node_at g p))

outside_more : (g : LinkGraph) (xs ys : List ℕ) (id : ℕ) (left after : List ℕ) → ys ≡ xs ++ id ∷ []
    → AreOutside g xs left → ((p : ℕ) → HasBit after p → HasBit left p)
    → ((p : ℕ) → p < length g.nodes → HasBit after p ↔ (HasBit left p × (id ≢ node_at g p))) → AreOutside g ys after
outside_more g xs ys id left after e before within same p = (
  (λ h.
      let b = (before p).0 (within p h) in
      let differs = ((same p b.0).0 h).1 in (
        b.0,
        (λ k. elim (has_append_cases xs (id ∷ []) (node_at g p) (subst (λ (zs : List ℕ). Has zs (node_at g p)) e k)) [
          | inl m ↦ b.1 m
          | inr m ↦ elim m [ inl is ↦ differs is | inr n ↦ absurd n ]
        ]),
      )),
  (λ h. (same p h.0).1 (
    (before p).1 (
      h.0,
      λ k. h.1 (subst (λ (zs : List ℕ). Has zs (node_at g p)) (sym e)
          (has_append_left xs (id ∷ []) (node_at g p) k)),
    ),
    (λ is. h.1 (subst (λ (zs : List ℕ). Has zs (node_at g p)) (sym e)
        (has_append_right xs (id ∷ []) (node_at g p) (inl is)))),
  )),
)

-- an id that is the node at a place
pub outside_node : (g : LinkGraph) (xs ys : List ℕ) (id place : ℕ) (left after : List ℕ) → IsGraph g
    → ys ≡ xs ++ id ∷ [] → AreOutside g xs left → place < length g.nodes → node_at g place ≡ id
    → ((p : ℕ) → HasBit after p ↔ ((p ≢ place) × HasBit left p)) → AreOutside g ys after
outside_node g xs ys id place left after graph e before below node clear =
    outside_more g xs ys id left after e before (λ p h. ((clear p).0 h).1) (λ p l. (
      (λ h.
          let b = (clear p).0 h in
          (b.1, (λ is. b.0 (one_place g.nodes p place graph.nodes_ascend l below (sym is ∙ sym node))))),
      (λ h. (clear p).1 ((λ at. h.1 (sym node ∙ ap (node_at g) (sym at))), h.0)),
    ))

-- an id that is no node
pub outside_stranger : (g : LinkGraph) (xs ys : List ℕ) (id : ℕ) (left : List ℕ) → ys ≡ xs ++ id ∷ []
    → AreOutside g xs left → ¬ Has g.nodes id → AreOutside g ys left
outside_stranger g xs ys id left e before none =
    outside_more g xs ys id left left e before (λ p h. h) (λ p l. (
      (λ h. (h, (λ is. none (subst (Has g.nodes) (sym is) (has_place g.nodes p 0 l))))),
      (λ h. h.0),
    ))
