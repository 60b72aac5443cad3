-- How the code stores a set of nodes and a checked certificate.
use Rattle.std.specs.Prelude.{ℕ, List, Option, Some, None, Vec}
use Rattle.std.specs.Global.{Global}
use Rattle.ov_graph.specs.Links.{LinkGraph}
use Rattle.ov_cert.specs.declared.own_or_shared_graph.HeldGraph.{HeldGraph}
use Rattle.ov_cert.specs.declared.own_or_shared_graph.HeldGraph.TheVariants.{Own, Shared}

-- a set of nodes of a graph; the members ascend
pub record NodeSetState : Type 0 where
  pub graph : LinkGraph
  pub members : List ℕ

-- the graph that is held, by itself or with others
abbrev pub graph_held : HeldGraph → LinkGraph
graph_held (Own g) = g
graph_held (Shared g) = g

-- the members of the stored group; if no group is stored, the group is all nodes
abbrev pub members_kept : LinkGraph → Option (Vec ℕ Global) → List ℕ
members_kept g None = g.nodes
members_kept g (Some group) = group.items
