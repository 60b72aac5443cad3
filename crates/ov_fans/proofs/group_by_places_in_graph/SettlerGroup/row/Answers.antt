use Rattle.std.proofs.Common.{subst}
use Rattle.ov_graph.specs.Links.{IsGroup}
use Rattle.ov_flow.specs.Flow.{AreBitsOf}
use Rattle.ov_fans.specs.Group.{SettlerState}
use Rattle.ov_fans.proofs.PieceNets.MemberPlaces.{places_group, places_row}
use Rattle.ov_fans.proofs.group_by_places_in_graph.SettlerGroup.row.Goals as goal

pub returns-clause-row : goal.returns-clause-row
returns-clause-row g c =
    let s = c.self.inside in
    subst (λ (m : SettlerState). AreBitsOf m.graph s.row.words m.members) c.self.view_is
    (places_row s.graph.now s.places.items s.row.words c.self.invariant.0)

pub returns-clause-group : goal.returns-clause-group
returns-clause-group g c =
    let s = c.self.inside in
    subst (λ (m : SettlerState). IsGroup m.graph m.members) c.self.view_is
    (places_group s.graph.now s.places.items s.row.words c.self.invariant.0)
