-- The rows of single broadcasts of a run. Chosen here.
use Rattle.std.specs.Prelude.{◌≡◌, ℕ, ◌+◌, true, List, [], ◌∷◌, ◌++◌}
use Rattle.ov_snap.specs.CoreState.{CoreState}
use Rattle.ov_grow_options.specs.declared.options.GrowOptions.{GrowOptions}
use Rattle.ov_grow.specs.Growing.{GrowsFrom, begins}
use Rattle.ov_grow.specs.MessageCosts.{AreCosts}
use Rattle.ov_grow.specs.Replay.{Replays}
use Rattle.ov_grow.specs.declared.message_cost.MessageCost.{MessageCost}
use Rattle.ov_grow.specs.declared.phase_moment_and_deliveries.PhaseEnd.{PhaseEnd}
use Rattle.ov_sweep_rows.specs.declared.broadcast_row.MessageRow.{MessageRow}
use Rattle.ov_sweep_rows.specs.declared.row.Phase.{Phase}
use Rattle.ov_sweep_rows.specs.declared.row.Phase.TheVariants.{Settle, Crash, Heal}

-- the row of a broadcast of a phase, of this number
unfoldable pub message_row : GrowOptions → Phase → ℕ → MessageCost → MessageRow
message_row o phase number c = record {
  options = o;
  phase = phase;
  number = number;
  origin = c.id.origin;
  live = c.live;
  delivered = c.delivered;
  hops = c.hops;
  gossip = c.gossip;
  ihave = c.ihave;
  graft = c.graft;
  prune = c.prune;
}

-- the rows of the broadcasts of a phase, of which the first has this number
abbrev pub message_rows : GrowOptions → Phase → ℕ → List MessageCost → List MessageRow
message_rows o phase number [] = []
message_rows o phase number (c ∷ more) = message_row o phase number c ∷ message_rows o phase (number + 1) more

-- the rows of all broadcasts of the overlay that is grown with the options o: there is a text by which it is grown,
-- which replays its core. They stand in the order of the phases and of the broadcasts, whose numbers count from 1 in
-- each phase
pub record AreMessagesOf (o : GrowOptions) (rows : List MessageRow) : Type 0 where
  pub text : List ℕ
  pub core : CoreState
  pub settled : PhaseEnd
  pub crashed : PhaseEnd
  pub healed : PhaseEnd
  pub grows : GrowsFrom (begins true o) o text core.world settled crashed healed
  pub replays : Replays text core
  pub settle_costs : List MessageCost
  pub crash_costs : List MessageCost
  pub heal_costs : List MessageCost
  pub settle : AreCosts grows.t settle_costs
  pub crash : AreCosts grows.v crash_costs
  pub heal : AreCosts grows.u heal_costs
  pub whole : rows
      ≡ message_rows o Settle 1 settle_costs ++ (message_rows o Crash 1 crash_costs ++ message_rows o Heal 1 heal_costs)

-- the options decide the rows of broadcasts: those of the same options are the same
abbrev pub OneMessages : Type 0
OneMessages =
    (o : GrowOptions) (rows other : List MessageRow) → AreMessagesOf o rows → AreMessagesOf o other → rows ≡ other
