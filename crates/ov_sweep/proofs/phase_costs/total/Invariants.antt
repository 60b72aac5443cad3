-- the sum so far, and that of what is left
use Rattle.std.proofs.Common.{◌≡◌, ◌+◌, drop}
use Rattle.std.specs.List.{sum_by}
use Rattle.ov_grow.specs.MessageCosts.{sent_of}
use Rattle.ov_sweep.proofs.phase_costs.total.Given as goal

abbrev pub invariant-loop-cost : goal.invariant-loop-cost
invariant-loop-cost l =
    l.total + sum_by (sent_of l.kind) (drop l.cost-index l.costs) ≡ sum_by (sent_of l.kind) l.costs
