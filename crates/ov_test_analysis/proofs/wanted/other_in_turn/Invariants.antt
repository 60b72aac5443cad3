-- the settler keeps its graph and its group
use Rattle.std.proofs.Common.{◌≡◌}
use Rattle.ov_test_analysis.proofs.wanted.other_in_turn.Given as goal

abbrev pub invariant-loop-i : goal.invariant-loop-i
invariant-loop-i l = l.settler ≡ record { graph = l.graph; members = l.group }
