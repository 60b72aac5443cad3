-- the nodes of the names so far
use Rattle.ov_dump.specs.Code.Numbering.{AreByName}
use Rattle.ov_dump.proofs.node_numbering.nodes_by_name.Given as goal

abbrev pub invariant-loop-place : goal.invariant-loop-place
invariant-loop-place l = AreByName l.sorted l.ids l.place l.nodes
