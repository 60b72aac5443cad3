use Rattle.ov_graph.proofs.BitRows.Marked.{nothing_kept, nothing_same}
use Rattle.ov_graph.proofs.row_graph.RowGraph.empty.Goals as goal

pub invariant_of-result : goal.invariant_of-result
invariant_of-result c = nothing_kept c.new.result.items c.new-2.result.items c.new.ensures.items c.new-2.ensures.items

pub returns : goal.returns
returns c = nothing_same c.new.result.items c.new-2.result.items c.new.ensures.items c.new-2.ensures.items
