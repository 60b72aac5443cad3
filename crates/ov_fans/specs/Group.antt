-- A graph with a group.
use Rattle.std.specs.Prelude.{ℕ, List}
use Rattle.ov_graph.specs.Links.{LinkGraph}

-- the value of a `Settler`, and of its part `SettlerGroup`, in contracts: a graph, and the members of a group
pub record SettlerState : Type 0 where
  pub graph : LinkGraph
  pub members : List ℕ
