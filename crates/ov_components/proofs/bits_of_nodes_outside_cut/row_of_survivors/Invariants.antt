-- The nodes that are not among the ids so far.
use Rattle.std.proofs.Common.{◌↔◌, ℕ, ◌<◌, length, take}
use Rattle.ov_ids.specs.Members.{Has}
use Rattle.ov_graph.specs.Paths.{node_at}
use Rattle.ov_graph.specs.Row.{HasBit}
use Rattle.ov_components.proofs.bits_of_nodes_outside_cut.row_of_survivors.Given as goal

abbrev pub invariant-loop-id : goal.invariant-loop-id
invariant-loop-id g l = (p : ℕ)
    → HasBit l.left p ↔ ((p < length l.graph.nodes) × ¬ Has (take l.id-index l.cut) (node_at l.graph p))
