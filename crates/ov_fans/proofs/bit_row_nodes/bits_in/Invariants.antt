-- no more bits than places so far
use Rattle.std.proofs.Common.{◌≤◌, ◌*◌}
use Rattle.ov_fans.proofs.bit_row_nodes.bits_in.Given as goal

abbrev pub invariant-loop-word : goal.invariant-loop-word
invariant-loop-word g l = l.bits ≤ 64 * l.word
