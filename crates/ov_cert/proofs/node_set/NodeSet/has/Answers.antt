-- The bit of a place says whether its node is a member.
use Rattle.std.proofs.Common.{sym, ap, ◌∙◌}
use Rattle.ov_ids.specs.Sets.{has}
use Rattle.ov_cert.specs.Code.Kept.{NodeSetState}
use Rattle.ov_cert.proofs.PathRules.NodeSets.{at_place, stranger_unmarked}
use Rattle.ov_cert.proofs.node_set.NodeSet.has.Goals as goal

pub returns-in-Some : goal.returns-in-Some
returns-in-Some g c =
    let s = c.self.inside in
    let at = at_place s.graph.now s.bits.words c.in-Some.place c.args.id c.in-Some.ensures.graph
    c.in-Some.ensures.some.0
    c.in-Some.ensures.some.1 in
    at.member c.has.result c.has.ensures ∙ ap (λ (v : NodeSetState). has v.members c.args.id) c.self.view_is

pub returns-in-None : goal.returns-in-None
returns-in-None g c =
    let s = c.self.inside in
    sym (stranger_unmarked s.bits.words s.graph.now.nodes c.args.id c.in-None.ensures.none)
    ∙ ap (λ (v : NodeSetState). has v.members c.args.id) c.self.view_is
