use Rattle.ov_net.proofs.Links.Scanned.{scanned_as}
use Rattle.ov_net.proofs.links_by_views.graph_by_views.Goals as goal

pub graph_of-requires-clause-mutual : goal.graph_of-requires-clause-mutual
graph_of-requires-clause-mutual c =
    scanned_as c.args.nodes.now c.in_ok-live.live.items c.deref.result.now c.deref-2.result.now
    c.in_ok-links.links.items c.deref-3.result.now c.deref.ensures.value c.deref-2.ensures.value c.deref-3.ensures.value
    c.in_ok-live.ensures.ascend c.in_ok-live.ensures.each c.in_ok-links.ensures.ascend c.in_ok-links.ensures.each
