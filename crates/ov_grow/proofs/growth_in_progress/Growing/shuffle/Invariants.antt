use Rattle.std.proofs.Common.{drop}
use Rattle.ov_script.specs.declared.recordable_event.Act.TheVariants as act
use Rattle.ov_grow.specs.Rounds.{DoesEach}
use Rattle.ov_grow.specs.Code.Standing.{AllLive, growth_of}
use Rattle.ov_grow.proofs.Going.{IsOn}
use Rattle.ov_grow.proofs.growth_in_progress.Growing.shuffle.Given as goal

abbrev pub invariant-loop-node : goal.invariant-loop-node
invariant-loop-node l =
    IsOn (DoesEach act.Shuffle l.nodes) (DoesEach act.Shuffle (drop l.node-index l.nodes)) l.initial.self l.self
    × AllLive l.nodes (growth_of l.self)
