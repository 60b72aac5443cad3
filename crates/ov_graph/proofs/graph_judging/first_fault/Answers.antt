-- Nodes without a fault ascend, so that a node can be searched for.
use Rattle.std.proofs.Common.{rules}
use Rattle.ov_graph.proofs.EvenTest.Tested.{ascends_unless_fault}
use Rattle.ov_graph.proofs.graph_judging.first_fault.Goals as goal

pub first_link_fault-requires : goal.first_link_fault-requires
first_link_fault-requires c = ascends_unless_fault c.args.nodes.now (search rules)
