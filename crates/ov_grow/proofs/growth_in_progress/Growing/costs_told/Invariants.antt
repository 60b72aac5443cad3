-- what the broadcasts so far cost, and those of the marks that are left
use Rattle.std.proofs.Common.{◌≡◌, ◌++◌, drop, map}
use Rattle.ov_grow.specs.MessageCosts.{cost_of, made_in}
use Rattle.ov_grow.proofs.growth_in_progress.Growing.costs_told.Given as goal

abbrev pub invariant-loop-mark : goal.invariant-loop-mark
invariant-loop-mark l =
    l.costs.items
    ++ map (cost_of l.self.recording.core.world.net l.live l.marks) (made_in (drop l.mark-index l.marks))
    ≡ map (cost_of l.self.recording.core.world.net l.live l.marks) (made_in l.marks)
