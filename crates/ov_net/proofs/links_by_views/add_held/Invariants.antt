-- the links of the node with the members so far
use Rattle.std.proofs.Common.{take}
use Rattle.ov_net.proofs.Links.Scanned.{HeldSoFar}
use Rattle.ov_net.proofs.links_by_views.add_held.Given as goal

abbrev pub invariant-loop-other : goal.invariant-loop-other
invariant-loop-other l = HeldSoFar l.nodes l.node l.fn.links.items (take l.other-index l.active) l.links.items
