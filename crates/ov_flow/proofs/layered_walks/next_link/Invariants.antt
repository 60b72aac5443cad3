use Rattle.std.proofs.Common.{◌≡◌, ◌-◌, ◌≤◌, length}
use Rattle.ov_flow.proofs.layered_walks.next_link.Given as goal

abbrev pub invariant-loop-w : goal.invariant-loop-w
invariant-loop-w g l = record {
  visited : l.layers.visited ≡ l.fn.layers.visited;
  long : length l.layers.links.items ≡ length l.fn.layers.links.items;
  fits : l.after ≤ length l.net.graph.nodes;
}

abbrev pub decreases-loop-w : goal.decreases-loop-w
decreases-loop-w g l = length l.net.graph.nodes - l.after
