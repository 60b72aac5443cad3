use Rattle.std.proofs.Common.{◌-◌, length}
use Rattle.ov_net.specs.Limits.{longest_of_any}
use Rattle.ov_grow.specs.Turns.{RunOut}
use Rattle.ov_grow.proofs.Going.{IsOn}
use Rattle.ov_grow.proofs.growth_in_progress.Growing.run_out.Given as goal

abbrev pub invariant-loop-self : goal.invariant-loop-self
invariant-loop-self l = IsOn (RunOut l.rules) (RunOut l.rules) l.initial.self l.self

abbrev pub decreases-loop-self : goal.decreases-loop-self
decreases-loop-self l = longest_of_any - length l.self.recording.core.world.journal
