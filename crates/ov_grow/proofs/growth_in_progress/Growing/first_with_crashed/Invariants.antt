use Rattle.std.proofs.Common.{◌-◌, length, take}
use Rattle.ov_grow.specs.Code.Standing.{HasCrashed, HaveNone, growth_of}
use Rattle.ov_grow.proofs.growth_in_progress.Growing.first_with_crashed.Given as goal

abbrev pub invariant-loop-place : goal.invariant-loop-place
invariant-loop-place l = HaveNone (HasCrashed (growth_of l.self)) (take l.place l.nodes)

abbrev pub decreases-loop-place : goal.decreases-loop-place
decreases-loop-place l = length l.nodes - l.place
