-- with what the lines that are left give, this is what all lines give; no line so far is at fault
use Rattle.std.proofs.Common.{length}
use Rattle.ov_scenario.specs.Scenarios.{stated_lines}
use Rattle.ov_scenario.specs.Code.Judging.{params_in, refill_in, scale_in, seed_in}
use Rattle.ov_scenario.proofs.Scenarios.Drivers.{NeedsSoFar}
use Rattle.ov_scenario.proofs.Scenarios.Judged.{FaultlessSoFar}
use Rattle.ov_scenario.proofs.Scenarios.Settled.{GivesSoFar}
use Rattle.ov_scenario.proofs.scenario_reading.read_settings.Given as goal

abbrev pub invariant-loop-judging : goal.invariant-loop-judging
invariant-loop-judging l =
    record {
      judged : FaultlessSoFar (stated_lines l.fn.bytes) l.judging.ahead l.judging.before;
      params : GivesSoFar params_in (stated_lines l.fn.bytes) l.settings.params l.judging.ahead;
      drivers : NeedsSoFar (stated_lines l.fn.bytes) l.settings.drivers l.judging.before.block l.judging.ahead;
      seed : GivesSoFar seed_in (stated_lines l.fn.bytes) l.settings.seed l.judging.ahead;
      refill : GivesSoFar refill_in (stated_lines l.fn.bytes) l.settings.refill l.judging.ahead;
      scale : GivesSoFar scale_in (stated_lines l.fn.bytes) l.settings.scale l.judging.ahead;
    }

abbrev pub decreases-loop-judging : goal.decreases-loop-judging
decreases-loop-judging l = length l.judging.ahead
