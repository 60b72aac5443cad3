-- The first such place in the node's list.
use Rattle.std.proofs.Common.{◌<◌, ◌≤◌, ◌*◌, IfSome, IfNone, length, sym, subst, arith, rules}
use Rattle.ov_graph.specs.Links.{LinkGraph}
use Rattle.ov_graph.specs.Neighbours.{IsFirst, HoldsNoMore, IsWithin}
use Rattle.ov_graph.specs.Row.{HasBit}
use Rattle.ov_graph.proofs.PlaceLists.Seeking.{lent_there, lent_ascends, some_found, none_found}
use Rattle.ov_graph.proofs.list_graph.ListGraph.next_within.Goals as goal

pub from-requires-clause-ascend : goal.from-requires-clause-ascend
from-requires-clause-ascend g c =
    let s = c.self.inside in
    let l = subst (λ (h : LinkGraph). c.args.p < length h.nodes) (sym c.self.view_is) c.requires.p in
    lent_ascends s.nodes.items s.links.items s.lists.items c.args.p c.index.result.now c.self.invariant l c.index.ensures

pub from-requires-clause-fit : goal.from-requires-clause-fit
from-requires-clause-fit g c q h =
    let s = c.self.inside in
    let l = subst (λ (h : LinkGraph). c.args.p < length h.nodes) (sym c.self.view_is) c.requires.p in
    let few = c.self.invariant.few in
    let there = lent_there s.nodes.items s.links.items s.lists.items c.args.p c.index.result.now c.self.invariant l
    c.index.ensures q in
    let m = (there.0 h).0 in omega (arith, m, few)

pub first_within_of-requires : goal.first_within_of-requires
first_within_of-requires g c =
    let s = c.self.inside in
    let l = subst (λ (h : LinkGraph). c.args.p < length h.nodes) (sym c.self.view_is) c.requires.p in
    let room = subst (λ (h : LinkGraph). length h.nodes ≤ 64 * g.row.W) (sym c.self.view_is) c.requires.room in (
      search rules,
      (
        c.from.ensures.ascend,
        (λ q h.
            let there = lent_there s.nodes.items s.links.items s.lists.items c.args.p c.index.result.now
            c.self.invariant l c.index.ensures q in
            let m = (there.0 ((c.from.ensures.each q).0 h).1).0 in omega (arith, m, room)),
      ),
    )

pub returns-clause-some : goal.returns-clause-some
returns-clause-some g c =
    let s = c.self.inside in
    let p = c.args.p in
    let o = c.first_within_of.result in
    let list = c.index.result.now in
    let l = subst (λ (h : LinkGraph). p < length h.nodes) (sym c.self.view_is) c.requires.p in
    subst (λ (h : LinkGraph). IfSome o (IsFirst (IsWithin h p c.args.set.now) c.args.after)) c.self.view_is
    (some_found (HasBit c.args.set.now) (record { nodes = s.nodes.items; links = s.links.items }) p c.args.after list
    c.from.result.now o
    (lent_there s.nodes.items s.links.items s.lists.items p list c.self.invariant l c.index.ensures) c.from.ensures
    c.first_within_of.ensures.some)

pub returns-clause-none : goal.returns-clause-none
returns-clause-none g c =
    let s = c.self.inside in
    let p = c.args.p in
    let o = c.first_within_of.result in
    let list = c.index.result.now in
    let l = subst (λ (h : LinkGraph). p < length h.nodes) (sym c.self.view_is) c.requires.p in
    subst (λ (h : LinkGraph). IfNone o (HoldsNoMore (IsWithin h p c.args.set.now) c.args.after)) c.self.view_is
    (none_found (HasBit c.args.set.now) (record { nodes = s.nodes.items; links = s.links.items }) p c.args.after list
    c.from.result.now o
    (lent_there s.nodes.items s.links.items s.lists.items p list c.self.invariant l c.index.ensures) c.from.ensures
    c.first_within_of.ensures.none)
