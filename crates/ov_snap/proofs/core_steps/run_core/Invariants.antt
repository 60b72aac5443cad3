-- the steps so far were taken
use Rattle.std.proofs.Common.{◌≡◌, ◌++◌}
use Rattle.ov_snap.specs.Run.{CoreRun}
use Rattle.ov_snap.proofs.core_steps.run_core.Given as goal

abbrev pub invariant-loop-step : goal.invariant-loop-step
invariant-loop-step l = record {
  all : l.yielded ++ l.step-iterator.rest.items ≡ l.fn.steps.items;
  run : CoreRun l.fn.params l.yielded l.core;
}
