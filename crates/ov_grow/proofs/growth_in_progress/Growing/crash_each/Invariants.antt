use Rattle.std.proofs.Common.{drop}
use Rattle.ov_script.specs.declared.recordable_event.Act.TheVariants as act
use Rattle.ov_grow.specs.Rounds.{DoesEach}
use Rattle.ov_ids.specs.Members.{IsDistinct}
use Rattle.ov_grow.specs.Code.Standing.{AllLive, growth_of}
use Rattle.ov_grow.proofs.Going.{IsOn}
use Rattle.ov_grow.proofs.growth_in_progress.Growing.crash_each.Given as goal

abbrev pub invariant-loop-node : goal.invariant-loop-node
invariant-loop-node l =
    IsOn (DoesEach act.Crash l.nodes) (DoesEach act.Crash (drop l.node-index l.nodes)) l.initial.self l.self
    × AllLive (drop l.node-index l.nodes) (growth_of l.self)
    × IsDistinct (drop l.node-index l.nodes)
