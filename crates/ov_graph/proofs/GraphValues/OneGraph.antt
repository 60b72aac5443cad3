-- A graph is known by its nodes and by which of them are linked.
use Rattle.std.proofs.Common.{◌≡◌, ◌≢◌, ◌↔◌, ℕ, List, inl, inr, refl, ap₂, arith}
use Rattle.ov_ids.specs.Members.{Has}
use Rattle.ov_ids.proofs.Members.{same_ascending, same_ordered}
use Rattle.ov_graph.specs.Links.{IsGraph, LinkGraph, Linked, Precedes}

-- linked nodes differ
pub linked_differ : (g : LinkGraph) (a b : ℕ) → IsGraph g → Linked g a b → a ≢ b
unfolding Linked
linked_differ g a b graph l e = elim l [
  | inl h ↦ let r = (graph.joins (a, b) h).0 in omega (arith, r, e)
  | inr h ↦ let r = (graph.joins (b, a) h).0 in omega (arith, r, e)
]

-- no node is linked to itself
pub not_self : (g : LinkGraph) (a : ℕ) → IsGraph g → ¬ Linked g a a
not_self g a graph l = linked_differ g a a graph l refl

one_way : (l m : ℕ × ℕ) → Precedes l m → Precedes m l → ⊥
one_way l m (inl p) (inl q) = omega (arith, p, q)
one_way l m (inl p) (inr q) = let e = q.0 in omega (arith, p, e)
one_way l m (inr p) (inl q) = let e = p.0 in omega (arith, q, e)
one_way l m (inr p) (inr q) = let a = p.1 in let b = q.1 in omega (arith, a, b)

-- a link of one graph is a link of the other where the same nodes are linked
link_of : (g h : LinkGraph) → IsGraph g → IsGraph h → ((a b : ℕ) → Linked g a b → Linked h a b) → (l : ℕ × ℕ)
    → Has g.links l → Has h.links l
unfolding Linked
link_of g h first second same l at = elim (same l.0 l.1 (inl at)) [
  | inl k ↦ k
  | inr k ↦
      let up = (first.joins l at).0 in let down = (second.joins (l.1, l.0) k).0 in absurd (omega (arith, up, down))
]

-- graphs with the same nodes, of which the same are linked, are equal
pub same_graphs : (g h : LinkGraph) → IsGraph g → IsGraph h → ((a : ℕ) → Has g.nodes a ↔ Has h.nodes a)
    → ((a b : ℕ) → Linked g a b ↔ Linked h a b) → g ≡ h
same_graphs g h first second nodes links =
    ap₂ (λ (ns : List ℕ) (ls : List (ℕ × ℕ)). record { nodes = ns; links = ls })
    (same_ascending g.nodes h.nodes first.nodes_ascend second.nodes_ascend (λ a. (nodes a).0) (λ a. (nodes a).1))
    (same_ordered Precedes one_way g.links h.links first.links_ascend second.links_ascend
    (link_of g h first second (λ a b. (links a b).0)) (link_of h g second first (λ a b. (links a b).1)))
