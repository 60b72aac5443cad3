-- there is still a turn for each place
use Rattle.std.proofs.Common.{◌≡◌, length}
use Rattle.ov_scatter.proofs.search_order.Search.go_from.Given as goal

abbrev pub invariant-loop-step : goal.invariant-loop-step
invariant-loop-step l = length l.self.turns.items ≡ length l.graph.nodes
