use Rattle.std.proofs.Common.{◌-◌, length, take}
use Rattle.ov_net.specs.Limits.{longest_of_any}
use Rattle.ov_grow.specs.Growth.{AreLive}
use Rattle.ov_grow.specs.Phases.{ReportCrashes}
use Rattle.ov_grow.specs.Code.Standing.{HasCrashed, HaveNone, growth_of}
use Rattle.ov_grow.proofs.Going.{IsOn}
use Rattle.ov_grow.proofs.growth_in_progress.Growing.report_crashes.Given as goal

-- the nodes are those that live, and none before the place has a crashed neighbour
abbrev pub invariant-loop-found : goal.invariant-loop-found
invariant-loop-found l = record {
  way : IsOn (ReportCrashes l.rules) (ReportCrashes l.rules) l.fn.self l.self;
  live : AreLive (growth_of l.self) l.nodes.items;
  none : HaveNone (HasCrashed (growth_of l.self)) (take l.from l.nodes.items);
}

abbrev pub decreases-loop-found : goal.decreases-loop-found
decreases-loop-found l = longest_of_any - length l.self.recording.core.world.journal
