-- The names of the nodes of a graph.
use Rattle.std.specs.Prelude.{◌≡◌, ℕ, ◌<◌, List, length, slice_index_or, Option, Some, None}
use Rattle.ov_graph.specs.Links.{LinkGraph}
use Rattle.ov_graph.specs.Paths.{node_at}

-- a graph, and for each of its nodes, in order, the name if there is one
pub record NamesState : Type 0 where
  pub graph : LinkGraph
  pub told : List (Option (List ℕ))

-- the graph g, with these names of its nodes, in order
abbrev pub names_of : LinkGraph → List (Option (List ℕ)) → NamesState
names_of g told = record { graph = g; told = told }

-- the node n of the graph has this name
abbrev pub IsNamed : NamesState → ℕ → List ℕ → Type 0
IsNamed names n name =
    (p : ℕ) × (p < length names.graph.nodes) × (node_at names.graph p ≡ n)
    × (slice_index_or names.told p None ≡ Some name)
