-- The aim of a fan, by the places that are kept.
use Rattle.ov_fans.specs.Pieces.{member_at}
use Rattle.ov_fans.proofs.PieceNets.Aimed.{fan_aimed}
use Rattle.ov_fans.proofs.piece_net.fan_aim.Goals as goal

pub returns : goal.returns
returns g c =
    let q = c.args.group.now.members in
    let own = c.row.ensures in
    let at = c.place_in_graph-source.ensures in
    fan_aimed c.args.group.now.graph q (member_at q c.args.j) c.place_in_graph-source.result c.row.result.now
    c.bits_below.result own.is_graph own.group own.row at.below at.there c.bits_below.ensures
