-- What growing returns that may keep a log of broadcasts.
use Rattle.std.specs.Prelude.{Bool}
use Rattle.ov_grow_options.specs.declared.options.GrowOptions.{GrowOptions}
use Rattle.ov_grow.specs.Growing.{GrowsFrom, begins}
use Rattle.ov_grow.specs.MessageCosts.{AreCosts}
use Rattle.ov_grow.specs.declared.growing_with_broadcast_log.LoggedGrowth.{LoggedGrowth}

-- an overlay was grown, and at the end of each phase these were the costs of its broadcasts
pub record IsLoggedGrowth (logged : Bool) (o : GrowOptions) (g : LoggedGrowth) : Type 0 where
  pub grows : GrowsFrom (begins logged o) o g.grown.script.text g.grown.core.world g.grown.settled g.grown.crashed
      g.grown.healed
  pub settle : AreCosts grows.t g.settle_costs.items
  pub crash : AreCosts grows.v g.crash_costs.items
  pub heal : AreCosts grows.u g.heal_costs.items
