use Rattle.std.proofs.Common.{◌+◌, ◌-◌}
use Rattle.ov_grow.specs.Phases.{Births}
use Rattle.ov_grow.specs.Code.Standing.{AreBorn, MayBear, growth_of}
use Rattle.ov_grow.proofs.Going.{IsOn}
use Rattle.ov_grow.proofs.growth_in_progress.Growing.births.Given as goal

abbrev pub invariant-loop-id : goal.invariant-loop-id
invariant-loop-id l =
    IsOn (Births l.rules l.pace 2 (l.nodes - 1)) (Births l.rules l.pace l.id (l.nodes + 1 - l.id)) l.initial.self l.self
    × AreBorn (l.id - 1) (growth_of l.self)
    × MayBear l.nodes (growth_of l.self)
