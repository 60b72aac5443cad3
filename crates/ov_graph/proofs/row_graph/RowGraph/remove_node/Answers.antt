use Rattle.std.proofs.Common.{subst, rules}
use Rattle.ov_graph.specs.Links.{IsGraph}
use Rattle.ov_graph.proofs.BitRows.Read.{is_graph}
use Rattle.ov_graph.proofs.GraphValues.ChangedNodes.{loses_none}
use Rattle.ov_graph.proofs.row_graph.RowGraph.remove_node.Goals as goal

pub returns-in-Some-clause-graph : goal.returns-in-Some-clause-graph
returns-in-Some-clause-graph c = is_graph _ _ c.take_out.ensures.kept

pub returns-in_default-clause-graph : goal.returns-in_default-clause-graph
returns-in_default-clause-graph c = subst IsGraph c.self.view_is (is_graph _ _ c.self.invariant)

pub returns-in_default-clause-node : goal.returns-in_default-clause-node
returns-in_default-clause-node c = loses_none _ _ (returns-in_default-clause-graph c) (search rules)
