use Rattle.ov_sweep.specs.Rows.{ArePhaseCosts}
use Rattle.ov_sweep.proofs.Asking.{asked, not_asked}
use Rattle.ov_sweep.proofs.sweep_row_making.costs_asked.Goals as goal

pub returns-then-not-asked : goal.returns-then-not-asked
returns-then-not-asked c = λ s are. not_asked (ArePhaseCosts s) c.args.asked c.if-not-asked.true

pub returns : goal.returns
returns c = λ s are.
    asked (ArePhaseCosts s) c.args.asked c.in_ok-phase_costs.field-0 c.if-not-asked.false
    (c.args.costs.now, are, c.in_ok-phase_costs.ensures)
