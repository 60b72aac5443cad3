-- the rows so far, and those of the broadcasts that are left
use Rattle.std.proofs.Common.{◌≡◌, ◌++◌, drop}
use Rattle.ov_sweep.specs.MessageRows.{message_rows}
use Rattle.ov_sweep.proofs.message_row_making.push_rows.Given as goal

abbrev pub invariant-loop-cost : goal.invariant-loop-cost
invariant-loop-cost l =
    l.rows.items ++ message_rows l.options l.phase l.number (drop l.cost-index l.costs)
    ≡ l.fn.rows.items ++ message_rows l.options l.phase 1 l.costs
