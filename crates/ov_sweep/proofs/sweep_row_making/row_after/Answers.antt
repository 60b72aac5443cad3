use Rattle.std.proofs.Common.{sym, subst}
use Rattle.ov_sweep.specs.Rows.{ArePhaseCosts, IsAsked, IsShapeOf}
use Rattle.ov_sweep.proofs.sweep_row_making.row_after.Goals as goal

pub returns : goal.returns
returns c = λ s are. record {
  report = c.in-Some.report.now;
  filed = c.in-Some.ensures.some;
  is_true = c.in-Some.ensures.is_true;
  numbers = c.phase_row.ensures.numbers;
  costs = subst (λ x. IsAsked c.args.measures.costs (ArePhaseCosts s) x) (sym c.phase_row.ensures.costs)
      (c.in_ok-costs-in-Some.ensures s are);
  shape = subst (λ x. IsAsked c.args.measures.shape (IsShapeOf c.in-Some.report.now.graph) x)
      (sym c.phase_row.ensures.shape) c.in_ok-shape-in-Some.ensures;
}
