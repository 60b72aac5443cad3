-- the numbers so far, and those that are left
use Rattle.std.proofs.Common.{◌≡◌, ◌+◌, ◌*◌, drop, length}
use Rattle.std.specs.List.{sum_by}
use Rattle.ov_sweep.specs.PhaseCosts.{parts_of_one}
use Rattle.ov_sweep.proofs.phase_costs.mean_hops.Given as goal

abbrev pub invariant-loop-cost : goal.invariant-loop-cost
invariant-loop-cost l = record {
  total : l.sum.total + sum_by (λ c. c.hops * parts_of_one) (drop l.cost-index l.costs)
      ≡ sum_by (λ c. c.hops * parts_of_one) l.costs;
  count : l.sum.count + length (drop l.cost-index l.costs) ≡ length l.costs;
}
