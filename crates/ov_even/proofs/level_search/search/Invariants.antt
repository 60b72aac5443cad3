-- The search is one of the graph and the group, and its bound falls.
use Rattle.std.proofs.Common.{◌≡◌}
use Rattle.ov_even.proofs.level_search.search.Given as goal

abbrev pub invariant-loop-levels : goal.invariant-loop-levels
invariant-loop-levels g l = record {
  settler : l.settler ≡ record { graph = l.graph; members = l.group };
  graph : l.levels.search.graph ≡ l.graph;
  members : l.levels.search.members ≡ l.group;
  keeping : l.levels.keeping ≡ l.keeping;
}

abbrev pub decreases-loop-levels : goal.decreases-loop-levels
decreases-loop-levels g l = l.levels.search.left
