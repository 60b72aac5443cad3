-- The rows in which the links are marked.
use Rattle.std.proofs.Common.{List, ℕ, sym, subst}
use Rattle.ov_graph.specs.Code.Kept.{IsKept}
use Rattle.ov_graph.proofs.BitRows.Marked.{is_kept, same_graph}
use Rattle.ov_graph.proofs.row_graph.RowGraph.of.Goals as goal

pub invariant_of-result : goal.invariant_of-result
invariant_of-result c =
    let nodes = c.args.nodes.now in
    let links = c.args.links.now in
    subst (λ (ns : List ℕ). IsKept ns c.in_ok-nodes.rows.items) (sym c.in_ok-nodes.ensures.0)
    (is_kept nodes links c.in_ok-nodes.rows.items c.requires.few c.requires.graph c.in_ok-nodes.ensures.1)

pub returns : goal.returns
returns c =
    same_graph c.args.nodes.now c.in_ok-nodes.nodes.items c.args.links.now c.in_ok-nodes.rows.items
    c.in_ok-nodes.ensures.0 c.requires.graph c.in_ok-nodes.ensures.1
