-- The nodes at the places of its list.
use Rattle.std.proofs.Common.{◌≡◌, ◌∙◌, ◌<◌, List, ℕ, length, slice_index, sym, ap₂, subst, arith}
use Rattle.ov_graph.specs.Links.{LinkGraph, AreNeighbours}
use Rattle.ov_graph.specs.Code.Listed.{listed_at, nodes_at}
use Rattle.ov_graph.proofs.PlaceLists.Reading.{list_lent, listed_neighbours}
use Rattle.ov_graph.proofs.list_graph.ListGraph.neighbours.Goals as goal

pub returns-clause-neighbours : goal.returns-clause-neighbours
returns-clause-neighbours c =
    let s = c.self.inside in
    let a = c.args.a in
    let p = c.place_in-p.result in
    let l = subst (λ (ns : List ℕ). p < length ns) c.deref.ensures.value c.place_in-p.ensures.below in
    let e = subst (λ (ns : List ℕ). slice_index ns p ≡ a) c.deref.ensures.value c.place_in-p.ensures.there in
    let each = c.self.invariant.listed.each in
    let at = list_lent s.lists.items p c.index.result.now (omega (arith, l, each)) c.index.ensures in
    let is : c.new.result ≡ nodes_at s.nodes.items (listed_at s.lists.items p) = c.new.ensures
    ∙ ap₂ (λ (ns ps : List ℕ). nodes_at ns ps) c.deref-2.ensures.value (c.as_slice.ensures ∙ at) in
    subst (λ (g : LinkGraph). AreNeighbours g a c.new.result) c.self.view_is
    (subst (λ (ns : List ℕ). AreNeighbours (record { nodes = s.nodes.items; links = s.links.items }) a ns) (sym is)
    (listed_neighbours s.nodes.items s.links.items s.lists.items a p c.self.invariant l e))
