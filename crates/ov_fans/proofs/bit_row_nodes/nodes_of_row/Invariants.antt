-- what was found, and what is still to come
use Rattle.std.proofs.Common.{◌≡◌, ◌-◌, ◌≤◌, ◌++◌, drop, length}
use Rattle.ov_graph.specs.Row.{picked}
use Rattle.ov_fans.proofs.bit_row_nodes.nodes_of_row.Given as goal

abbrev pub invariant-loop-place : goal.invariant-loop-place
invariant-loop-place g l = record {
  within : l.next ≤ length l.nodes;
  found : l.found.items ++ picked l.row l.next (drop l.next l.nodes) ≡ picked l.row 0 l.nodes;
}

abbrev pub decreases-loop-place : goal.decreases-loop-place
decreases-loop-place g l = length l.nodes - l.next
