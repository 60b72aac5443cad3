use Rattle.std.proofs.Common.{Some, sym, ap, ◌∙◌}
use Rattle.std.specs.Option.{option_copied}
use Rattle.ov_peer.specs.PeerState.{PeerState}
use Rattle.ov_net.proofs.Links.Changing.{holds_tested}
use Rattle.ov_net.proofs.live_graph_updating.holds.Goals as goal

pub returns-in-Some-Live : goal.returns-in-Some-Live
returns-in-Some-Live c =
    holds_tested c.args.nodes.now c.args.node c.args.other c.in-Some-Live.peer c.is_member.result c.active.result.now
    (sym c.get.ensures ∙ ap option_copied c.in-Some-Live.is ∙ ap Some c.in-Some-Live.field-0-is)
    (c.active.ensures.value ∙ ap (λ (p : PeerState). p.hyparview.views.active) c.state.ensures)
    c.is_member.ensures.member
