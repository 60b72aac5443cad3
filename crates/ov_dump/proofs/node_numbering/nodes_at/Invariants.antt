-- the nodes at the places so far
use Rattle.ov_dump.proofs.Numberings.{NodesSoFar}
use Rattle.ov_dump.proofs.node_numbering.nodes_at.Given as goal

abbrev pub invariant-loop-at : goal.invariant-loop-at
invariant-loop-at l = NodesSoFar l.count l.order l.at l.nodes.items
