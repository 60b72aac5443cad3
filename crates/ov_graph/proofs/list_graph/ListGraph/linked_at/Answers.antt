-- The list at one place says whether the two are linked.
use Rattle.std.proofs.Common.{◌<◌, ◌↔◌, List, ℕ, IsTrue, length, slice_index, sym, subst, arith}
use Rattle.ov_ids.specs.Members.{Has, Ascends}
use Rattle.ov_graph.specs.Links.{LinkGraph, Linked}
use Rattle.ov_graph.proofs.PlaceLists.Reading.{list_lent, listed_linked}
use Rattle.ov_graph.proofs.list_graph.ListGraph.linked_at.Goals as goal

pub has-requires-clause-ascend : goal.has-requires-clause-ascend
has-requires-clause-ascend c =
    let s = c.self.inside in
    let l = subst (λ (g : LinkGraph). c.args.p < length g.nodes) (sym c.self.view_is) c.requires.p in
    let each = c.self.invariant.listed.each in
    let at = list_lent s.lists.items c.args.p c.index.result.now (omega (arith, l, each)) c.index.ensures in
    subst Ascends (sym at) (c.self.invariant.listed.ascend c.args.p)

pub has-requires-clause-place : goal.has-requires-clause-place
has-requires-clause-place c =
    let m = subst (λ (g : LinkGraph). c.args.q < length g.nodes) (sym c.self.view_is) c.requires.q in
    let few = c.self.invariant.few in omega (arith, m, few)

pub returns-clause-linked : goal.returns-clause-linked
returns-clause-linked c =
    let s = c.self.inside in
    let p = c.args.p in
    let q = c.args.q in
    let l = subst (λ (g : LinkGraph). p < length g.nodes) (sym c.self.view_is) c.requires.p in
    let m = subst (λ (g : LinkGraph). q < length g.nodes) (sym c.self.view_is) c.requires.q in
    let each = c.self.invariant.listed.each in
    let at = list_lent s.lists.items p c.index.result.now (omega (arith, l, each)) c.index.ensures in
    let b = listed_linked s.nodes.items s.links.items s.lists.items p q c.self.invariant l m in
    let t = subst (λ (xs : List ℕ). IsTrue c.has.result ↔ Has xs q) at c.has.ensures in
    subst (λ (g : LinkGraph). IsTrue c.has.result ↔ Linked g (slice_index g.nodes p) (slice_index g.nodes q))
    c.self.view_is ((λ h. b.0 (t.0 h)), (λ h. t.1 (b.1 h)))
