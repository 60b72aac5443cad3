use Rattle.std.proofs.Common.{subst}
use Rattle.ov_net.specs.Code.Codes.{world_of}
use Rattle.ov_net.specs.World.{WorldState, HasFewNodes}
use Rattle.ov_net.proofs.Standing.{few_at_each_moment}
use Rattle.ov_net.proofs.world.World.journal.Goals as goal

pub returns-clause-few : goal.returns-clause-few
returns-clause-few c =
    let w = c.self.inside in
    subst (λ (v : WorldState). HasFewNodes v.net.params v.journal) c.self.view_is
    (few_at_each_moment (world_of w.params w.nodes w.packets.items w.journal.items) c.self.invariant.0)
