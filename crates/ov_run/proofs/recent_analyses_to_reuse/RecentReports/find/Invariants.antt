-- Those that are left have answers, and each kept report about the graph and the group is among them.
use Rattle.std.proofs.Common.{length}
use Rattle.ov_run.proofs.Recent.{IsLeft}
use Rattle.ov_run.proofs.recent_analyses_to_reuse.RecentReports.find.Given as goal

abbrev pub invariant-loop-first : goal.invariant-loop-first
invariant-loop-first l = IsLeft l.fn.graph l.fn.group l.fn.self l.left

abbrev pub decreases-loop-first : goal.decreases-loop-first
decreases-loop-first l = length l.left
