-- What the broadcasts of a phase cost together: sums and means. The relative redundancy is that of Plumtree's paper
-- (Leitão, Pereira, Rodrigues, SRDS 2007); that it is rounded down to four decimal digits is chosen here.
use Rattle.std.specs.Prelude.{ℕ, ◌-◌, ◌*◌, ◌/◌, ◌==◌, nat_lt, if◌then◌else◌, List, [], ◌∷◌, ◌++◌, map, length, sum}
use Rattle.std.specs.Prelude.{Option, Some, None}
use Rattle.std.specs.List.{sum_by}
use Rattle.std.specs.Option.{option_to_list}
use Rattle.ov_sweep_rows.specs.declared.phase_costs.PhaseCosts.{PhaseCosts}
use Rattle.ov_sweep_rows.specs.declared.four_decimals.FourDecimals.{FourDecimals}
use Rattle.ov_grow.specs.declared.message_cost.MessageCost.{MessageCost}

-- how many parts are one, if a number is told with four decimal digits
abbrev pub parts_of_one : ℕ
parts_of_one = 10000

-- the mean of so many numbers with this sum, rounded down; there is none without numbers. The numbers are parts of
-- 10,000
abbrev pub mean_of : ℕ → ℕ → Option FourDecimals
mean_of total count = if count == 0 then None else Some (record { parts = total / count })

-- the mean of these numbers
abbrev pub mean : List ℕ → Option FourDecimals
mean parts = mean_of (sum parts) (length parts)

-- the relative redundancy of a broadcast, in parts of 10,000, rounded down: how many GOSSIP more there were than it
-- takes, for each delivery but the first. There is none if fewer than two nodes delivered the message
abbrev pub redundancy_of : MessageCost → Option ℕ
redundancy_of c =
    if nat_lt c.delivered 2 then None else Some (c.gossip * parts_of_one / (c.delivered - 1) - parts_of_one)

-- the relative redundancies of these broadcasts, as far as they have one
abbrev pub redundancies : List MessageCost → List ℕ
redundancies [] = []
redundancies (c ∷ more) = option_to_list (redundancy_of c) ++ redundancies more

-- what these broadcasts cost together: how many messages were sent, the mean of their hops, and that of their relative
-- redundancies
unfoldable pub phase_costs : List MessageCost → PhaseCosts
phase_costs costs = record {
  gossip = sum_by (λ c. c.gossip) costs;
  ihave = sum_by (λ c. c.ihave) costs;
  graft = sum_by (λ c. c.graft) costs;
  prune = sum_by (λ c. c.prune) costs;
  hops = mean (map (λ c. c.hops * parts_of_one) costs);
  redundancy = mean (redundancies costs);
}
