-- What was found so far, and how many nodes may still come.
use Rattle.std.proofs.Common.{◌-◌, length}
use Rattle.ov_graph.specs.Paths.{node_at}
use Rattle.ov_shape.proofs.ShapeOfGraph.Searching.{IsSearching}
use Rattle.ov_shape.proofs.layered_search.search.Given as goal

abbrev pub invariant-layers : goal.invariant-layers
invariant-layers g l = record {
  found : IsSearching l.graph (node_at l.graph l.place) l.front l.found.places l.found.count l.found.total l.found.far;
}

abbrev pub decreases-layers : goal.decreases-layers
decreases-layers g l = length l.graph.nodes - l.found.count
