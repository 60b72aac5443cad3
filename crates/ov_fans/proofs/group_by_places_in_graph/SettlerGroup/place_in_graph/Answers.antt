-- The place that is kept for the member.
use Rattle.std.proofs.Common.{◌≤◌, ◌<◌, length, sym, subst, arith}
use Rattle.ov_fans.specs.Group.{SettlerState}
use Rattle.ov_fans.proofs.PieceNets.MemberPlaces.{member_placed}
use Rattle.ov_fans.proofs.group_by_places_in_graph.SettlerGroup.place_in_graph.Goals as goal

pub returns-clause-below : goal.returns-clause-below
returns-clause-below g c =
    let s = c.self.inside in
    let p = c.index.result.now in
    let high = subst (λ (m : SettlerState). c.args.i ≤ length m.members) (sym c.self.view_is) c.requires.high in
    subst (λ (m : SettlerState). p < length m.graph.nodes) c.self.view_is
    (member_placed s.graph.now s.places.items s.row.words c.args.i p c.self.invariant.0 c.requires.low high
    c.index.ensures).below

pub returns-clause-fits : goal.returns-clause-fits
returns-clause-fits g c =
    let s = c.self.inside in
    let high = subst (λ (m : SettlerState). c.args.i ≤ length m.members) (sym c.self.view_is) c.requires.high in
    let below = (member_placed s.graph.now s.places.items s.row.words c.args.i c.index.result.now c.self.invariant.0
    c.requires.low high c.index.ensures).below in
    let room = c.self.invariant.1 in
    omega (arith, below, room)
