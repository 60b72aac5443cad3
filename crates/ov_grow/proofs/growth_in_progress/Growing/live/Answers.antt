use Rattle.ov_grow.specs.Code.Standing.{growth_of}
use Rattle.ov_grow.proofs.Living.{live_nodes}
use Rattle.ov_grow.proofs.growth_in_progress.Growing.live.Goals as goal

pub returns : goal.returns
returns c =
    live_nodes (growth_of c.args.self.now) c.world.result.now _ c.world.ensures c.in_ok-live_nodes.ensures
