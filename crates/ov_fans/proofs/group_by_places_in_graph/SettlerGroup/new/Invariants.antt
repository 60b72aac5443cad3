-- the places of the members so far
use Rattle.std.proofs.Common.{take}
use Rattle.ov_fans.proofs.PieceNets.MemberPlaces.{AreMemberPlacesSoFar}
use Rattle.ov_fans.proofs.group_by_places_in_graph.SettlerGroup.new.Given as goal

abbrev pub invariant-loop-member : goal.invariant-loop-member
invariant-loop-member g l = AreMemberPlacesSoFar l.graph (take l.member-index l.group) l.places.items l.row
