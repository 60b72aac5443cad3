-- Paths from one node of a graph to some others, and the sets of nodes that separate it from them (Menger, Fund. Math.
-- 10, 1927).
use Rattle.std.specs.Prelude.{◌↔◌, ℕ, ◌≤◌, List, ◌++◌, length}
use Rattle.ov_ids.specs.Members.{Has, IsApart}
use Rattle.ov_graph.specs.Links.{LinkGraph, IsGraph}
use Rattle.ov_graph.specs.Joined.{Joined, IsNodeSet}
use Rattle.ov_graph.specs.Paths.{IsFan}

-- a net: paths are sought in the graph from the source to the targets, without the avoided nodes
pub record SplitNetState : Type 0 where
  pub graph : LinkGraph
  pub avoided : List ℕ
  pub source : ℕ
  pub targets : List ℕ

-- the source is a node. The avoided nodes and the targets are sets of nodes, and the source is in neither
pub record IsSplitNet (n : SplitNetState) : Type 0 where
  pub graph : IsGraph n.graph
  pub source : Has n.graph.nodes n.source
  pub avoided : IsNodeSet n.graph n.avoided
  pub targets : IsNodeSet n.graph n.targets
  pub not_avoided : ¬ Has n.avoided n.source
  pub no_target : ¬ Has n.targets n.source

-- a fan of the net: k paths from the source to k targets, without avoided nodes. Every two share only the source
pub record IsFanOf (n : SplitNetState) (k : ℕ) (paths : List (List ℕ)) : Type 0 where
  pub fan : IsFan n.graph n.source n.targets k paths
  pub off : (p : List ℕ) → Has paths p → IsApart n.avoided p

-- x is reached without s: it is joined to the source without s and the avoided nodes
abbrev pub IsReached : SplitNetState → List ℕ → ℕ → Type 0
IsReached n s x = Joined n.graph (n.avoided ++ s) n.source x

-- a cut: a set of nodes without which no target is reached. It has neither the source nor an avoided node
pub record IsCutOf (n : SplitNetState) (s : List ℕ) : Type 0 where
  pub set : IsNodeSet n.graph s
  pub source : ¬ Has s n.source
  pub off : IsApart n.avoided s
  pub parts : (t : ℕ) → Has n.targets t → ¬ IsReached n s t

-- a minimum cut: no cut has fewer nodes
pub record IsLeastCut (n : SplitNetState) (s : List ℕ) : Type 0 where
  pub cut : IsCutOf n s
  pub least : (t : List ℕ) → IsCutOf n t → length s ≤ length t

-- the nearest minimum cut: each node that is reached without it is reached without every other minimum cut too (Ford
-- and Fulkerson, Flows in Networks, 1962)
pub record IsNearestCut (n : SplitNetState) (s : List ℕ) : Type 0 where
  pub least : IsLeastCut n s
  pub nearest : (t : List ℕ) → IsLeastCut n t → (x : ℕ) → IsReached n s x → IsReached n t x

-- the side of a cut: the nodes that are reached without it
pub record IsSideOf (n : SplitNetState) (s side : List ℕ) : Type 0 where
  pub set : IsNodeSet n.graph side
  pub each : (x : ℕ) → Has side x ↔ IsReached n s x
