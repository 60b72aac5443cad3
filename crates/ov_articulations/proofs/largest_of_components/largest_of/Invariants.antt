use Rattle.ov_articulations.proofs.Largest.{IsBest}
use Rattle.ov_articulations.proofs.largest_of_components.largest_of.Given as goal

abbrev pub invariant-loop-place : goal.invariant-loop-place
invariant-loop-place l = IsBest l.components l.place l.largest
