-- the links of the nodes so far
use Rattle.std.proofs.Common.{take}
use Rattle.ov_net.proofs.Links.Scanned.{LinksSoFar}
use Rattle.ov_net.proofs.links_by_views.mutual_links.Given as goal

abbrev pub invariant-loop-node : goal.invariant-loop-node
invariant-loop-node l = LinksSoFar l.nodes (take l.node-index l.live) l.links.items
