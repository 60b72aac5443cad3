-- the changes that are left decide for all
use Rattle.std.proofs.Common.{drop}
use Rattle.ov_grow.specs.Code.Standing.{TakeNoCrashed}
use Rattle.ov_grow.proofs.growth_in_progress.Growing.take_crashed.Given as goal

abbrev pub invariant-loop-change : goal.invariant-loop-change
invariant-loop-change l =
    TakeNoCrashed l.self.recording.core.world.net (drop l.change-index l.changes)
    → TakeNoCrashed l.self.recording.core.world.net l.changes
