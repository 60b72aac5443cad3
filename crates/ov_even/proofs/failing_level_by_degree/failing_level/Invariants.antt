-- Even's test does not pass at the level above the least degree so far, which stays below the number of nodes.
use Rattle.std.proofs.Common.{◌≤◌, ◌+◌, length}
use Rattle.ov_graph.specs.Even.{PassesEven}
use Rattle.ov_even.proofs.failing_level_by_degree.failing_level.Given as goal

abbrev pub invariant-loop-member : goal.invariant-loop-member
invariant-loop-member l = record {
  below : l.least + 2 ≤ length l.graph.nodes;
  fails : ¬ PassesEven l.graph l.group (l.least + 1);
}
