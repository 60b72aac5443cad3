-- The places of neighbours of a node, one after another, among the places in a set or outside it. A set is a row of bits.
use Rattle.std.specs.Prelude.{ℕ, ◌<◌, ◌≤◌, List, length}
use Rattle.ov_graph.specs.Links.{LinkGraph, Linked}
use Rattle.ov_graph.specs.Paths.{node_at}
use Rattle.ov_graph.specs.Row.{HasBit}

-- p is the first place from `from` on for which P holds
pub record IsFirst (P : ℕ → Type 0) (from p : ℕ) : Type 0 where
  pub reached : from ≤ p
  pub holds : P p
  pub first : (q : ℕ) → from ≤ q → q < p → ¬ P q

-- P holds for no place from `from` on
abbrev pub HoldsNoMore : (ℕ → Type 0) → ℕ → Type 0
HoldsNoMore P from = (q : ℕ) → from ≤ q → ¬ P q

-- q is the place of a neighbour of the node at place p
abbrev pub AreLinkedAt : LinkGraph → ℕ → ℕ → Type 0
AreLinkedAt g p q = (q < length g.nodes) × Linked g (node_at g p) (node_at g q)

-- q is the place of a neighbour of the node at place p, and is not in the set
abbrev pub IsOutside : LinkGraph → ℕ → List ℕ → ℕ → Type 0
IsOutside g p set q = AreLinkedAt g p q × ¬ HasBit set q

-- q is the place of a neighbour of the node at place p, and is in the set
abbrev pub IsWithin : LinkGraph → ℕ → List ℕ → ℕ → Type 0
IsWithin g p set q = AreLinkedAt g p q × HasBit set q
