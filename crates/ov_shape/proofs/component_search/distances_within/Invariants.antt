-- The distances from the nodes at places below `from`.
use Rattle.std.proofs.Common.{◌*◌, ◌-◌, ◌≤◌}
use Rattle.ov_shape.proofs.ShapeOfGraph.Passing.{IsPassing}
use Rattle.ov_shape.proofs.component_search.distances_within.Given as goal

abbrev pub invariant-members : goal.invariant-members
invariant-members g l = record {
  passing : IsPassing l.graph l.places l.from l.all.total l.all.far;
  fits : l.from ≤ 64 * l.words;
}

abbrev pub decreases-members : goal.decreases-members
decreases-members g l = 64 * l.words - l.from
