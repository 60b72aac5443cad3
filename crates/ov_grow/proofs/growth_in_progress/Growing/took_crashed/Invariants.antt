-- the entries that are left decide for all
use Rattle.std.proofs.Common.{drop}
use Rattle.ov_net.specs.Journal.{changes_of}
use Rattle.ov_grow.specs.Code.Standing.{TakeNoCrashed}
use Rattle.ov_grow.proofs.growth_in_progress.Growing.took_crashed.Given as goal

abbrev pub invariant-loop-entry : goal.invariant-loop-entry
invariant-loop-entry l =
    TakeNoCrashed l.self.recording.core.world.net (changes_of (drop l.entry-index l.entry-items))
    → TakeNoCrashed l.self.recording.core.world.net (changes_of l.entry-items)
