-- Setting the bit of a node's place adds the node.
use Rattle.std.proofs.Common.{ℕ, List, sym, ap, ◌∙◌}
use Rattle.ov_ids.specs.Sets.{has, adding}
use Rattle.ov_cert.specs.Code.Kept.{NodeSetState}
use Rattle.ov_cert.proofs.PathRules.NodeSets.{at_place, stranger_out, fresh_not, fresh_yes, fresh_stranger}
use Rattle.ov_cert.proofs.node_set.NodeSet.enter.Goals as goal

pub returns-in_default-clause-fresh : goal.returns-in_default-clause-fresh
returns-in_default-clause-fresh g c =
    let g = c.self.inside.graph.now in
    let no = stranger_out g.nodes c.args.id c.in_default.ensures.none in
    fresh_stranger _ _ (ap (λ (v : NodeSetState). has v.graph.nodes c.args.id) (sym c.self.view_is) ∙ no)

pub returns-then-has-clause-fresh : goal.returns-then-has-clause-fresh
returns-then-has-clause-fresh g c =
    let s = c.self.inside in
    let at = at_place s.graph.now s.bits.words c.in-Some.place c.args.id c.in-Some.ensures.graph
    c.in-Some.ensures.some.0
    c.in-Some.ensures.some.1 in
    fresh_not _ _ (ap (λ (v : NodeSetState). has v.graph.nodes c.args.id) (sym c.self.view_is) ∙ at.node)
    (ap (λ (v : NodeSetState). has v.members c.args.id) (sym c.self.view_is)
    ∙ sym (at.member c.has.result c.has.ensures)
    ∙ c.if-has.true)

pub returns-clause-fresh : goal.returns-clause-fresh
returns-clause-fresh g c =
    let s = c.self.inside in
    let at = at_place s.graph.now s.bits.words c.in-Some.place c.args.id c.in-Some.ensures.graph
    c.in-Some.ensures.some.0
    c.in-Some.ensures.some.1 in
    fresh_yes _ _ (ap (λ (v : NodeSetState). has v.graph.nodes c.args.id) (sym c.self.view_is) ∙ at.node)
    (ap (λ (v : NodeSetState). has v.members c.args.id) (sym c.self.view_is)
    ∙ sym (at.member c.has.result c.has.ensures)
    ∙ c.if-has.false)

pub returns-clause-entered : goal.returns-clause-entered
returns-clause-entered g c =
    let s = c.self.inside in
    let at = at_place s.graph.now s.bits.words c.in-Some.place c.args.id c.in-Some.ensures.graph
    c.in-Some.ensures.some.0
    c.in-Some.ensures.some.1 in
    let of : List ℕ → NodeSetState = λ ms. record { graph = s.graph.now; members = ms } in
    ap of (at.taken c.put.new.row c.put.ensures) ∙ ap (λ (v : NodeSetState). record v
    { members = adding c.args.id v.members }) c.self.view_is
