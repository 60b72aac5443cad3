use Rattle.std.proofs.Common.{◌<◌, length}
use Rattle.ov_flow.proofs.flat_paths.places_to.Given as goal

abbrev pub invariant-loop-step : goal.invariant-loop-step
invariant-loop-step l = l.at < length l.from
