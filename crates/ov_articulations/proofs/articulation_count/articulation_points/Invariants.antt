use Rattle.ov_articulations.proofs.Counting.{IsCounted}
use Rattle.ov_articulations.proofs.articulation_count.articulation_points.Given as goal

abbrev pub invariant-loop-node : goal.invariant-loop-node
invariant-loop-node l = IsCounted l.graph l.largest l.node-index l.count
