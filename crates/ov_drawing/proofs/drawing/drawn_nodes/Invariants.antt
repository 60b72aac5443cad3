-- what is drawn of the nodes so far
use Rattle.std.proofs.Common.{◌≡◌, take, map}
use Rattle.ov_drawing.specs.Code.Tables.{node_by}
use Rattle.ov_drawing.proofs.drawing.drawn_nodes.Given as goal

abbrev pub invariant-loop-id : goal.invariant-loop-id
invariant-loop-id l = l.drawn.items ≡ map (node_by l.classes l.group) (take l.id-index l.nodes)
