-- The coefficients of the nodes at places below `place`.
use Rattle.std.proofs.Common.{◌*◌, ◌≤◌, drop}
use Rattle.ov_shape.specs.Clustering.{IsCoefficient}
use Rattle.ov_shape.proofs.ShapeOfGraph.Sums.{GoesOn}
use Rattle.ov_shape.proofs.clustering_coefficient.clustering.Given as goal

abbrev pub invariant-places : goal.invariant-places
invariant-places g l = record {
  sum : GoesOn (IsCoefficient l.graph) l.graph.nodes (drop l.place l.graph.nodes) l.total;
  few : l.total ≤ l.place * 1000000;
}
