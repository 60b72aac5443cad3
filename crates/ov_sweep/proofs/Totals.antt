-- What the broadcasts of a phase cost together.
use Rattle.std.proofs.Common.{◌≡◌, ◌*◌, ℕ, List, map, Option}
use Rattle.std.specs.List.{sum_by}
use Rattle.ov_sweep_rows.specs.declared.phase_costs.PhaseCosts.{PhaseCosts}
use Rattle.ov_sweep_rows.specs.declared.four_decimals.FourDecimals.{FourDecimals}
use Rattle.ov_sweep.specs.PhaseCosts.{mean, parts_of_one, phase_costs, redundancies}
use Rattle.ov_grow.specs.MessageCosts.{sent_of}
use Rattle.ov_grow.specs.declared.message_cost.CountedKind.TheVariants as kind
use Rattle.ov_grow.specs.declared.message_cost.MessageCost.{MessageCost}

-- costs of these parts
abbrev pub told_by : ℕ → ℕ → ℕ → ℕ → Option FourDecimals → Option FourDecimals → PhaseCosts
told_by gossip ihave graft prune hops redundancy = record {
  gossip = gossip;
  ihave = ihave;
  graft = graft;
  prune = prune;
  hops = hops;
  redundancy = redundancy;
}

pub totals : (costs : List MessageCost) (gossip ihave graft prune : ℕ) (hops redundancy : Option FourDecimals)
    → gossip ≡ sum_by (sent_of kind.Gossip) costs → ihave ≡ sum_by (sent_of kind.Ihave) costs
    → graft ≡ sum_by (sent_of kind.Graft) costs → prune ≡ sum_by (sent_of kind.Prune) costs
    → hops ≡ mean (map (λ c. c.hops * parts_of_one) costs) → redundancy ≡ mean (redundancies costs)
    → told_by gossip ihave graft prune hops redundancy ≡ phase_costs costs
unfolding phase_costs
totals costs gossip ihave graft prune hops redundancy a b c d e f = λ i. record {
  gossip = a i;
  ihave = b i;
  graft = c i;
  prune = d i;
  hops = e i;
  redundancy = f i;
}
