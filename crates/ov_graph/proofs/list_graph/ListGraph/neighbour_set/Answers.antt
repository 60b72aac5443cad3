-- The bits of the places in the node's list.
use Rattle.std.proofs.Common.{◌<◌, ◌≤◌, ◌*◌, ◌↔◌, ℕ, List, length, sym, subst, arith, rules}
use Rattle.ov_ids.specs.Members.{Has}
use Rattle.ov_graph.specs.Links.{LinkGraph}
use Rattle.ov_graph.specs.Neighbours.{AreLinkedAt}
use Rattle.ov_graph.specs.Row.{HasBit}
use Rattle.ov_graph.proofs.PlaceLists.Seeking.{lent_there}
use Rattle.ov_graph.proofs.list_graph.ListGraph.neighbour_set.Goals as goal

pub set_of-requires : goal.set_of-requires
set_of-requires g c =
    let s = c.self.inside in
    let l = subst (λ (h : LinkGraph). c.args.p < length h.nodes) (sym c.self.view_is) c.requires.p in
    let room = subst (λ (h : LinkGraph). length h.nodes ≤ 64 * g.row.W) (sym c.self.view_is) c.requires.room in (
      search rules,
      (λ q h.
          let there = lent_there s.nodes.items s.links.items s.lists.items c.args.p c.index.result.now
          c.self.invariant l c.index.ensures q in
          let k = subst (λ (xs : List ℕ). Has xs q) c.as_slice.ensures h in
          let m = (there.0 k).0 in omega (arith, m, room)),
    )

pub returns-clause-set : goal.returns-clause-set
returns-clause-set g c =
    let s = c.self.inside in
    let p = c.args.p in
    let list = c.index.result.now in
    let l = subst (λ (h : LinkGraph). p < length h.nodes) (sym c.self.view_is) c.requires.p in
    subst (λ (h : LinkGraph). (q : ℕ) → HasBit c.set_of.result q ↔ AreLinkedAt h p q) c.self.view_is (λ q.
    let b = subst (λ (xs : List ℕ). HasBit c.set_of.result q ↔ Has xs q) c.as_slice.ensures (c.set_of.ensures q) in
    let t = lent_there s.nodes.items s.links.items s.lists.items p list c.self.invariant l c.index.ensures q in
    ((λ h. t.0 (b.0 h)), (λ h. b.1 (t.1 h))))
