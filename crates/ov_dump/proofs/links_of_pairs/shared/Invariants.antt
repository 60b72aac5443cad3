-- of the pairs so far, those that are in the other list too
use Rattle.std.proofs.Common.{take}
use Rattle.ov_dump.proofs.Paired.{SharedSoFar}
use Rattle.ov_dump.proofs.links_of_pairs.shared.Given as goal

abbrev pub invariant-loop-pair : goal.invariant-loop-pair
invariant-loop-pair l = SharedSoFar (take l.pair-index l.up) l.down l.both.items
