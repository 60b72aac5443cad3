-- with the lines at fault that are left, those so far are all lines at fault; the first of them are kept, and all
-- counted
use Rattle.std.proofs.Common.{length}
use Rattle.ov_scenario.specs.Scenarios.{stated_lines}
use Rattle.ov_scenario.proofs.Scenarios.Counted.{CountedSoFar}
use Rattle.ov_scenario.proofs.fault_listing.faulty_lines.Given as goal

abbrev pub invariant-loop-judging : goal.invariant-loop-judging
invariant-loop-judging l =
    CountedSoFar (stated_lines l.fn.bytes) l.judging.ahead l.judging.before l.fn.most l.faulty

abbrev pub decreases-loop-judging : goal.decreases-loop-judging
decreases-loop-judging l = length l.judging.ahead
