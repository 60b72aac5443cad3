-- The bit says whether the two are linked.
use Rattle.std.proofs.Common.{◌<◌, ◌↔◌, length, slice_index, sym, subst}
use Rattle.ov_graph.specs.Links.{LinkGraph, IsGraph, Linked}
use Rattle.ov_graph.specs.Row.{HasBit}
use Rattle.ov_graph.proofs.BitRows.Read.{is_graph, bit_linked}
use Rattle.ov_graph.proofs.row_graph.RowGraph.linked_at.Goals as goal

pub returns-clause-graph : goal.returns-clause-graph
returns-clause-graph c = subst IsGraph c.self.view_is (is_graph _ _ c.self.invariant)

pub returns-clause-linked : goal.returns-clause-linked
returns-clause-linked c =
    let s = c.self.inside in
    let p = c.args.p in
    let q = c.args.q in
    let l = subst (λ (g : LinkGraph). p < length g.nodes) (sym c.self.view_is) c.requires.p in
    let m = subst (λ (g : LinkGraph). q < length g.nodes) (sym c.self.view_is) c.requires.q in
    let b = subst
    (λ (g : LinkGraph). HasBit c.index.result.now q ↔ Linked g (slice_index g.nodes p) (slice_index g.nodes q))
    c.self.view_is
    (bit_linked s.nodes.items s.rows.items p q c.index.result.now c.self.invariant l m c.index.ensures) in
    ((λ h. b.0 (c.has.ensures.0 h)), (λ h. c.has.ensures.1 (b.1 h)))
