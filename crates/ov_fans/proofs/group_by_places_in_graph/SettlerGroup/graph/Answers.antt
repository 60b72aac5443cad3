use Rattle.std.proofs.Common.{subst}
use Rattle.ov_graph.specs.Links.{IsGroup}
use Rattle.ov_fans.specs.Group.{SettlerState}
use Rattle.ov_fans.proofs.PieceNets.MemberPlaces.{places_group}
use Rattle.ov_fans.proofs.group_by_places_in_graph.SettlerGroup.graph.Goals as goal

pub returns-clause-group : goal.returns-clause-group
returns-clause-group g c =
    let s = c.self.inside in
    subst (λ (m : SettlerState). IsGroup m.graph m.members) c.self.view_is
    (places_group s.graph.now s.places.items s.row.words c.self.invariant.0)
