use Rattle.std.proofs.Common.{◌*◌, ◌≤◌}
use Rattle.ov_graph.specs.Links.{most_of_any_graph}
use Rattle.ov_flow.proofs.flat_paths.used.Given as goal

abbrev pub invariant-loop-end : goal.invariant-loop-end
invariant-loop-end l = l.count ≤ most_of_any_graph * l.end-index
