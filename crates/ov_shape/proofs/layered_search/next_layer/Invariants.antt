-- The nodes of the layer at places below `from` were gone through.
use Rattle.std.proofs.Common.{◌*◌, ◌-◌, ◌≤◌}
use Rattle.ov_shape.proofs.ShapeOfGraph.Layers.{IsLayered}
use Rattle.ov_shape.proofs.layered_search.next_layer.Given as goal

abbrev pub invariant-nodes : goal.invariant-nodes
invariant-nodes g l = record {
  layered : IsLayered l.graph l.front l.fn.reached l.reached l.next l.from;
  fits : l.from ≤ 64 * l.words;
}

abbrev pub decreases-nodes : goal.decreases-nodes
decreases-nodes g l = 64 * l.words - l.from
