-- The largest component so far.
use Rattle.ov_shape.proofs.ShapeOfGraph.Largest.{IsBest}
use Rattle.ov_shape.proofs.component_search.largest_component.Given as goal

abbrev pub invariant-places : goal.invariant-places
invariant-places g l = record { best : IsBest l.graph l.place l.seen l.best.0 l.best.1.0 }
