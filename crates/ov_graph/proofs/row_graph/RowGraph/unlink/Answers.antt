use Rattle.std.proofs.Common.{◌∙◌, ℕ, List, sym, subst}
use Rattle.std.proofs.lemmas.List.{with_items_is}
use Rattle.ov_graph.specs.Code.Kept.{IsKept}
use Rattle.ov_graph.proofs.BitRows.Read.{is_graph}
use Rattle.ov_graph.proofs.row_graph.RowGraph.unlink.Goals as goal

pub returns-clause-graph : goal.returns-clause-graph
returns-clause-graph c =
    let nodes = c.self.inside.nodes.items in
    let now = c.part.new.rows in
    let rows_are = with_items_is c.self.inside.rows now (c.part.auto.rows ∙ c.deref_mut.ensures.len) in
    let kept = subst (λ (ns : List ℕ). IsKept ns now) c.deref.ensures.value c.part.ensures.kept in
    is_graph _ _ (subst (IsKept nodes) (sym rows_are) kept)
