-- The search is one of the graph and the group, and its bound falls.
use Rattle.std.proofs.Common.{◌≡◌}
use Rattle.ov_crew.proofs.analysis_by_threads.search.Given as goal

abbrev pub invariant-loop-levels : goal.invariant-loop-levels
invariant-loop-levels g l = record {
  graph : l.levels.search.graph ≡ l.graph;
  members : l.levels.search.members ≡ l.group;
  keeping : l.levels.keeping ≡ l.keeping;
}

abbrev pub decreases-loop-levels : goal.decreases-loop-levels
decreases-loop-levels g l = l.levels.search.left
