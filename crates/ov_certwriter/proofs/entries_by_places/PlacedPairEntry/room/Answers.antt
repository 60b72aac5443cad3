-- The room by places is that of the entry by ids.
use Rattle.std.proofs.Common.{◌≤◌, Some, subst, arith}
use Rattle.ov_cert.specs.declared.cert.PairPaths.{PairPaths}
use Rattle.ov_certwriter.specs.Code.Blocks.{entry_room}
use Rattle.ov_certwriter.proofs.entries_by_places.PlacedPairEntry.room.Goals as goal

pub returns : goal.returns
returns c small = subst (λ (e : PairPaths). entry_room e.paths ≤ c.room_of.result) c.self.view_is
    (c.room_of.ensures c.self.inside.graph.now (Some c.self.inside.j) (omega arith) small)
