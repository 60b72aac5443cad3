-- the lines so far, with those of the lines that are left that can't be read, are all such lines
use Rattle.std.proofs.Common.{length}
use Rattle.ov_graphfile.proofs.GraphFiles.Unread.{AreUnread}
use Rattle.ov_graphfile.proofs.unread_lines_with_count.unread_lines.Given as goal

abbrev pub invariant-loop-line : goal.invariant-loop-line
invariant-loop-line l = AreUnread l.fn.bytes l.fn.most l.unread l.left

abbrev pub decreases-loop-line : goal.decreases-loop-line
decreases-loop-line l = length l.left
