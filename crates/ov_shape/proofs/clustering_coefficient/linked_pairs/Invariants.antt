-- The common neighbours with the neighbours at places below `from`.
use Rattle.std.proofs.Common.{ℕ, ◌+◌, ◌*◌, ◌-◌, ◌≤◌, drop, length}
use Rattle.ov_graph.specs.Row.{picked}
use Rattle.ov_shape.specs.Clustering.{HaveCommon}
use Rattle.ov_shape.specs.Code.Found.{IsNeighbourSet}
use Rattle.ov_shape.proofs.ShapeOfGraph.Sums.{GoesOn}
use Rattle.ov_shape.proofs.clustering_coefficient.linked_pairs.Given as goal

abbrev pub invariant-neighbours : goal.invariant-neighbours
invariant-neighbours g l = record {
  sum : (a : ℕ) → IsNeighbourSet l.graph a l.neighbours
      → GoesOn (HaveCommon l.graph a) (picked l.neighbours 0 l.graph.nodes)
      (picked l.neighbours l.from (drop l.from l.graph.nodes)) l.linked;
  few : l.linked + (l.degree - 1) * length (picked l.neighbours l.from (drop l.from l.graph.nodes))
      ≤ (l.degree - 1) * l.degree;
  fits : l.from ≤ 64 * l.words;
}

abbrev pub decreases-neighbours : goal.decreases-neighbours
decreases-neighbours g l = 64 * l.words - l.from
