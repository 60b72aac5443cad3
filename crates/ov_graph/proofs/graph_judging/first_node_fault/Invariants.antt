-- what is left decides
use Rattle.std.proofs.Common.{◌≡◌, None, drop}
use Rattle.ov_graph.specs.Code.Tests.{nodes_fault}
use Rattle.ov_graph.proofs.graph_judging.first_node_fault.Given as goal

abbrev pub invariant-loop-at : goal.invariant-loop-at
invariant-loop-at l = nodes_fault 0 None l.nodes ≡ nodes_fault l.at l.last (drop l.at l.nodes)
