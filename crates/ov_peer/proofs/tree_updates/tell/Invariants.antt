use Rattle.std.proofs.Common.{length}
use Rattle.ov_peer.proofs.Changing.{Telling}
use Rattle.ov_peer.proofs.tree_updates.tell.Given as goal

abbrev pub invariant-loop-change : goal.invariant-loop-change
invariant-loop-change l = Telling l.fn.plum l.fn.changes l.plum l.left

abbrev pub decreases-loop-change : goal.decreases-loop-change
decreases-loop-change l = length l.left
