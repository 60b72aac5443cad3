-- The row that is kept at the node's place.
use Rattle.std.proofs.Common.{◌≡◌, ◌<◌, ◌↔◌, ℕ, List, length, slice_index, subst}
use Rattle.ov_graph.specs.Links.{LinkGraph, IsGraph, Linked}
use Rattle.ov_graph.specs.Row.{HasBit}
use Rattle.ov_graph.proofs.BitRows.Read.{is_graph, row_bits}
use Rattle.ov_graph.proofs.row_graph.RowGraph.row.Goals as goal

pub returns-clause-graph : goal.returns-clause-graph
returns-clause-graph c = subst IsGraph c.self.view_is (is_graph _ _ c.self.invariant)

pub returns-clause-bits : goal.returns-clause-bits
returns-clause-bits c =
    let s = c.self.inside in
    let p = c.place_in.result in
    let row = c.index.result.now in
    let d = c.deref.ensures.value in
    let l = subst (λ (ns : List ℕ). p < length ns) d c.place_in.ensures.below in
    let e = subst (λ (ns : List ℕ). slice_index ns p ≡ c.args.a) d c.place_in.ensures.there in
    subst (λ (g : LinkGraph). (q : ℕ) → HasBit row q
    ↔ ((q < length g.nodes) × Linked g c.args.a (slice_index g.nodes q))) c.self.view_is
    (row_bits s.nodes.items s.rows.items c.args.a p row c.self.invariant l e c.index.ensures)
