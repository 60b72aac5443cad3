use Rattle.std.proofs.Common.{Some, sym, ap, ◌∙◌}
use Rattle.std.specs.Option.{option_copied}
use Rattle.ov_peer.specs.PeerState.{PeerState}
use Rattle.ov_net.proofs.Links.Scanned.{upward_added}
use Rattle.ov_net.proofs.Steps.NodeChanges.{on_ok}
use Rattle.ov_net.proofs.links_by_views.add_links.Goals as goal

pub returns-in-Some-Live-clause-each : goal.returns-in-Some-Live-clause-each
returns-in-Some-Live-clause-each c =
    on_ok c.add_held.result
    (upward_added c.args.nodes.now c.args.node c.in-Some-Live.peer c.active.result.now c.args.links.now.items
    c.add_held.new.links.items
    (sym c.get.ensures ∙ ap option_copied c.in-Some-Live.is ∙ ap Some c.in-Some-Live.field-0-is)
    (c.active.ensures.value ∙ ap (λ (p : PeerState). p.hyparview.views.active) c.state.ensures))
    c.add_held.ensures.each
