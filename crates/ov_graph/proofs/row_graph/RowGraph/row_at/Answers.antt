-- The row that is kept at the place.
use Rattle.std.proofs.Common.{◌<◌, ◌↔◌, ℕ, length, slice_index, sym, subst, refl}
use Rattle.ov_graph.specs.Links.{LinkGraph, IsGraph, Linked}
use Rattle.ov_graph.specs.Row.{HasBit}
use Rattle.ov_graph.proofs.BitRows.Read.{is_graph, row_bits}
use Rattle.ov_graph.proofs.row_graph.RowGraph.row_at.Goals as goal

pub returns-clause-graph : goal.returns-clause-graph
returns-clause-graph c = subst IsGraph c.self.view_is (is_graph _ _ c.self.invariant)

pub returns-clause-bits : goal.returns-clause-bits
returns-clause-bits c =
    let s = c.self.inside in
    let p = c.args.p in
    let row = c.index.result.now in
    let l = subst (λ (g : LinkGraph). p < length g.nodes) (sym c.self.view_is) c.requires in
    subst (λ (g : LinkGraph). (q : ℕ) → HasBit row q
    ↔ ((q < length g.nodes) × Linked g (slice_index g.nodes p) (slice_index g.nodes q))) c.self.view_is
    (row_bits s.nodes.items s.rows.items (slice_index s.nodes.items p) p row c.self.invariant l refl c.index.ensures)
