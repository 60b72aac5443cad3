-- the lines that are left grow fewer
use Rattle.std.proofs.Common.{length}
use Rattle.ov_reasons.proofs.line_number_and_remaining_count.line_of.Given as goal

abbrev pub decreases-loop-line : goal.decreases-loop-line
decreases-loop-line l = length l.left
