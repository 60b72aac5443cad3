-- The nodes whose bits are set in its row.
use Rattle.std.proofs.Common.{◌∙◌, sym, ap, subst}
use Rattle.ov_graph.specs.Links.{LinkGraph, AreNeighbours}
use Rattle.ov_graph.specs.Row.{picked}
use Rattle.ov_graph.proofs.BitRows.Read.{are_neighbours}
use Rattle.ov_graph.proofs.row_graph.RowGraph.neighbours.Goals as goal

pub returns-clause-neighbours : goal.returns-clause-neighbours
returns-clause-neighbours c =
    let row = c.row.result.now in
    let e = c.new.ensures ∙ ap (picked row 0) c.deref.ensures.value
    ∙ ap (λ (g : LinkGraph). picked row 0 g.nodes) c.self.view_is in
    subst (AreNeighbours c.args.self.now c.args.a) (sym e)
    (are_neighbours c.args.self.now c.args.a row c.row.ensures.graph c.row.ensures.bits)
