use Rattle.std.proofs.Common.{rules}
use Rattle.ov_graph.proofs.BitRows.Read.{is_graph}
use Rattle.ov_graph.proofs.row_graph.RowGraph.add_node.Goals as goal

pub returns-clause-graph : goal.returns-clause-graph
returns-clause-graph c = is_graph _ _ (search rules)
