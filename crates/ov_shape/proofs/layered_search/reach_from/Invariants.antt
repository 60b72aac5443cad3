-- The neighbours at places below `after` were added.
use Rattle.std.proofs.Common.{◌-◌, ◌≤◌, length}
use Rattle.ov_shape.proofs.ShapeOfGraph.Adding.{AreAdding}
use Rattle.ov_shape.proofs.layered_search.reach_from.Given as goal

abbrev pub invariant-neighbours : goal.invariant-neighbours
invariant-neighbours g l = record {
  adding : AreAdding l.graph l.place l.fn.reached l.reached l.fn.next l.next l.after;
  fits : l.after ≤ length l.graph.nodes;
}

abbrev pub decreases-neighbours : goal.decreases-neighbours
decreases-neighbours g l = length l.graph.nodes - l.after
