-- one of the lines that are left ends a block exactly if one of all does
use Rattle.std.proofs.Common.{◌≡◌, length, map}
use Rattle.ov_scenario.specs.Scenarios.{stated_at}
use Rattle.ov_scenario.specs.Sections.{has_end}
use Rattle.ov_scenario.proofs.lines_ahead.have_end.Given as goal

abbrev pub invariant-loop-text : goal.invariant-loop-text
invariant-loop-text l = has_end (map stated_at l.left) ≡ has_end (map stated_at l.fn.lines)

abbrev pub decreases-loop-text : goal.decreases-loop-text
decreases-loop-text l = length l.left
