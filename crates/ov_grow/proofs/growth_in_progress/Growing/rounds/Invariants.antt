use Rattle.std.proofs.Common.{◌-◌}
use Rattle.ov_grow.specs.Rounds.{Rounds}
use Rattle.ov_grow.proofs.Going.{IsOn}
use Rattle.ov_grow.proofs.growth_in_progress.Growing.rounds.Given as goal

abbrev pub invariant-loop-round : goal.invariant-loop-round
invariant-loop-round l =
    IsOn (Rounds l.rules l.count) (Rounds l.rules (l.count - l._round)) l.initial.self l.self
