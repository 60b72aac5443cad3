use Rattle.ov_sweep.proofs.Totals.{totals}
use Rattle.ov_sweep.proofs.phase_costs.phase_costs.Goals as goal

pub returns : goal.returns
returns c = totals c.args.costs.now _ _ _ _ _ _ c.in_ok-total.ensures c.in_ok-total-2.ensures c.in_ok-total-3.ensures
    c.in_ok-total-4.ensures c.in_ok-mean_hops.ensures c.in_ok-mean_redundancy.ensures
