use Rattle.std.proofs.Common.{◌≤◌}
use Rattle.ov_flow.proofs.place_table.count_stamped.Given as goal

abbrev pub invariant-loop-cell : goal.invariant-loop-cell
invariant-loop-cell l = l.count ≤ l.cell-index
