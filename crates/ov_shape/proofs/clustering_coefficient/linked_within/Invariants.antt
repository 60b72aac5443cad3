-- The common neighbours at places below `after`.
use Rattle.std.proofs.Common.{◌-◌, ◌≤◌, length}
use Rattle.ov_shape.proofs.ShapeOfGraph.Clusters.{AreCommonBelow}
use Rattle.ov_shape.proofs.clustering_coefficient.linked_within.Given as goal

abbrev pub invariant-common : goal.invariant-common
invariant-common g l = record {
  common : AreCommonBelow l.graph l.place l.set l.after l.shared;
  few : l.shared ≤ l.after;
  fits : l.after ≤ length l.graph.nodes;
}

abbrev pub decreases-common : goal.decreases-common
decreases-common g l = length l.graph.nodes - l.after
