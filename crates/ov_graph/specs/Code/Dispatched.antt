-- A graph, its links and its neighbours, however the code keeps them.
use Rattle.std.specs.Prelude.{ℕ, ◌<◌, List, length}
use Rattle.ov_graph.specs.Links.{LinkGraph, most_nodes}
use Rattle.ov_graph.specs.declared.graph.Kept.{Kept}
use Rattle.ov_graph.specs.declared.graph.Kept.TheVariants.{Rows, Lists}
use Rattle.ov_graph.specs.declared.link_iterators.LinksLeft.{LinksLeft}
use Rattle.ov_graph.specs.declared.link_iterators.LinksLeft.TheVariants.{Rows as LinksOfRows, Lists as LinksOfLists}
use Rattle.ov_graph.specs.declared.link_iterators.NeighboursLeft.{NeighboursLeft}
use Rattle.ov_graph.specs.declared.link_iterators.NeighboursLeft.TheVariants.{Rows as NeighboursOfRows}
use Rattle.ov_graph.specs.declared.link_iterators.NeighboursLeft.TheVariants.{Lists as NeighboursOfLists}

abbrev pub graph_of : Kept → LinkGraph
graph_of (Rows g) = g
graph_of (Lists g) = g

-- no graph is kept as lists whose nodes fit the rows
abbrev pub HasItsSize : Kept → Type 0
HasItsSize (Rows g) = Unit {0}
HasItsSize (Lists g) = most_nodes < length g.nodes

abbrev pub links_left : LinksLeft → List (ℕ × ℕ)
links_left (LinksOfRows ls) = ls
links_left (LinksOfLists ls) = ls

abbrev pub neighbours_left : NeighboursLeft → List ℕ
neighbours_left (NeighboursOfRows ns) = ns
neighbours_left (NeighboursOfLists ns) = ns
