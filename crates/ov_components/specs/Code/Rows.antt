-- Rows of places while components are taken out one after another.
use Rattle.std.specs.Prelude.{ℕ, ◌<◌, ◌↔◌, List, length}
use Rattle.ov_ids.specs.Members.{Has}
use Rattle.ov_graph.specs.Links.{LinkGraph, Linked}
use Rattle.ov_graph.specs.Joined.{Joined}
use Rattle.ov_graph.specs.Paths.{node_at}
use Rattle.ov_graph.specs.Row.{HasBit}

-- the row has places of survivors, and with each of them the survivors to which it is linked
pub record IsWhole (g : LinkGraph) (s row : List ℕ) : Type 0 where
  pub survive : (p : ℕ) → HasBit row p → ¬ Has s (node_at g p)
  pub closed : (p q : ℕ) → HasBit row p → q < length g.nodes → ¬ Has s (node_at g q)
      → Linked g (node_at g p) (node_at g q) → HasBit row q

-- `row` has the places of the nodes that are joined to the one at `start`. All were left before, and `after` has the
-- others that were
pub record TakesComponent (g : LinkGraph) (s before : List ℕ) (start : ℕ) (after row : List ℕ) : Type 0 where
  pub component : (p : ℕ) → HasBit row p ↔ ((p < length g.nodes) × Joined g s (node_at g start) (node_at g p))
  pub within : (p : ℕ) → HasBit row p → HasBit before p
  pub left : (p : ℕ) → HasBit after p ↔ (HasBit before p × ¬ HasBit row p)
