use Rattle.std.proofs.Common.{subst}
use Rattle.ov_graph.specs.Links.{IsGraph}
use Rattle.ov_graph.proofs.BitRows.Read.{is_graph}
use Rattle.ov_graph.proofs.row_graph.RowGraph.links.Goals as goal

pub returns-clause-graph : goal.returns-clause-graph
returns-clause-graph c = subst IsGraph c.self.view_is (is_graph _ _ c.self.invariant)
