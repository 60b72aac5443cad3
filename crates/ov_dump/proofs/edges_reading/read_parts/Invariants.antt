-- what the lines so far say
use Rattle.std.proofs.Common.{length}
use Rattle.ov_dump.proofs.Edging.{Gathers}
use Rattle.ov_dump.proofs.edges_reading.read_parts.Given as goal

abbrev pub invariant-loop-line : goal.invariant-loop-line
invariant-loop-line l = Gathers l.bytes l.parts.names l.parts.entries.items l.parts.listings.items l.left

abbrev pub decreases-loop-line : goal.decreases-loop-line
decreases-loop-line l = length l.left
