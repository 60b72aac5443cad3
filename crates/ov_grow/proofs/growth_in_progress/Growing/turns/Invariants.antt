use Rattle.std.proofs.Common.{◌-◌}
use Rattle.ov_grow.specs.Turns.{TurnsUpTo}
use Rattle.ov_grow.proofs.Going.{IsOn}
use Rattle.ov_grow.proofs.growth_in_progress.Growing.turns.Given as goal

abbrev pub invariant-loop-turn : goal.invariant-loop-turn
invariant-loop-turn l =
    IsOn (TurnsUpTo l.rules l.most) (TurnsUpTo l.rules (l.most - l._turn)) l.initial.self l.self
