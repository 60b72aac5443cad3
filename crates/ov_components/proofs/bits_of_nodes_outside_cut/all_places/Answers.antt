use Rattle.std.proofs.Common.{arith}
use Rattle.ov_graph.proofs.BitRows.Bits.{no_bits}
use Rattle.ov_components.proofs.bits_of_nodes_outside_cut.all_places.Goals as goal

pub loop-place-init : goal.loop-place-init
loop-place-init v c q = ((λ h. absurd (no_bits v.row.W q h)), (λ l. absurd (omega (arith, l))))
