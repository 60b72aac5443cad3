use Rattle.ov_grow.proofs.LookingOn.{change_left, no_change_left}
use Rattle.ov_grow.specs.Code.Standing.{TakesNoCrashed}
use Rattle.std.proofs.Common.{subst}
use Rattle.ov_grow.proofs.growth_in_progress.Growing.take_crashed.Goals as goal

pub loop-change-init : goal.loop-change-init
loop-change-init c = λ none. none

pub loop-change-preserved : goal.loop-change-preserved
loop-change-preserved c = λ more.
    c.loop-change.invariant
    (change_left c.args.self.now.recording.core.world.net c.args.changes.now c.loop-change.change-index
    c.change-item.result c.loop-change-test.true
    (subst (TakesNoCrashed c.args.self.now.recording.core.world.net) c.change-item.is
    (c.takes_crashed.ensures c.if-takes_crashed.false)) more)

pub returns : goal.returns
returns c = λ never.
    c.loop-change.invariant
    (no_change_left c.args.self.now.recording.core.world.net c.args.changes.now c.loop-change.change-index
    c.loop-change-test.false)
