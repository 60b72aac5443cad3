-- The room by places is that of the entry by ids.
use Rattle.std.proofs.Common.{◌≤◌, None, subst, arith}
use Rattle.ov_cert.specs.declared.cert.FanPaths.{FanPaths}
use Rattle.ov_certwriter.specs.Code.Blocks.{entry_room}
use Rattle.ov_certwriter.proofs.entries_by_places.PlacedFanEntry.room.Goals as goal

pub returns : goal.returns
returns c small = subst (λ (e : FanPaths). entry_room e.paths ≤ c.room_of.result) c.self.view_is
    (c.room_of.ensures c.self.inside.graph.now None (omega arith) small)
