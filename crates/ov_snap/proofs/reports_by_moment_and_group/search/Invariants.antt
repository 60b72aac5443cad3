-- the report is neither before the first of what is left nor behind the last
use Rattle.std.proofs.Common.{◌-◌}
use Rattle.ov_snap.proofs.Indexing.{Remains}
use Rattle.ov_snap.proofs.reports_by_moment_and_group.search.Given as goal

abbrev pub invariant-loop-low : goal.invariant-loop-low
invariant-loop-low l = Remains l.filed l.places (l.moment, l.group) l.low l.high

abbrev pub decreases-loop-low : goal.decreases-loop-low
decreases-loop-low l = l.high - l.low
