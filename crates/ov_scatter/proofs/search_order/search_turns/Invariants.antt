-- there is still a turn for each place
use Rattle.std.proofs.Common.{◌≡◌, length}
use Rattle.ov_scatter.proofs.search_order.search_turns.Given as goal

abbrev pub invariant-loop-start : goal.invariant-loop-start
invariant-loop-start l = length l.search.turns.items ≡ length l.graph.nodes
