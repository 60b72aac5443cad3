-- the numbers so far, and those that are left
use Rattle.std.proofs.Common.{◌≡◌, ◌+◌, drop, length}
use Rattle.std.specs.Prelude.{sum}
use Rattle.ov_sweep.specs.PhaseCosts.{redundancies}
use Rattle.ov_sweep.proofs.phase_costs.mean_redundancy.Given as goal

abbrev pub invariant-loop-cost : goal.invariant-loop-cost
invariant-loop-cost l = record {
  total : l.sum.total + sum (redundancies (drop l.cost-index l.costs)) ≡ sum (redundancies l.costs);
  count : l.sum.count + length (redundancies (drop l.cost-index l.costs)) ≡ length (redundancies l.costs);
}
