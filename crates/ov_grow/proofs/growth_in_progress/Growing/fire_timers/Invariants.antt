use Rattle.std.proofs.Common.{◌-◌, length}
use Rattle.ov_net.specs.Limits.{longest_of_any}
use Rattle.ov_grow.specs.Broadcasts.{TimersFire}
use Rattle.ov_grow.proofs.Going.{IsOn}
use Rattle.ov_grow.proofs.growth_in_progress.Growing.fire_timers.Given as goal

abbrev pub invariant-loop-self : goal.invariant-loop-self
invariant-loop-self l =
    IsOn (TimersFire l.rules l.messages) (TimersFire l.rules l.messages) l.initial.self l.self

abbrev pub decreases-loop-self : goal.decreases-loop-self
decreases-loop-self l = longest_of_any - length l.self.recording.core.world.journal
