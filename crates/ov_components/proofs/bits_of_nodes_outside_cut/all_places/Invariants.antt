-- The places so far.
use Rattle.std.proofs.Common.{◌↔◌, ℕ, ◌<◌}
use Rattle.ov_graph.specs.Row.{HasBit}
use Rattle.ov_components.proofs.bits_of_nodes_outside_cut.all_places.Given as goal

abbrev pub invariant-loop-place : goal.invariant-loop-place
invariant-loop-place g l = (q : ℕ) → HasBit l.row q ↔ q < l.place
