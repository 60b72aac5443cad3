use Rattle.ov_sweep_summary.specs.SplitBounds.{NoneBelow}
use Rattle.ov_sweep_summary.proofs.split_bound.first_below.Given as goal

abbrev pub invariant-loop-place : goal.invariant-loop-place
invariant-loop-place l = NoneBelow l.bound l.settings l.place
