use Rattle.std.proofs.Common.{subst}
use Rattle.ov_net.specs.Net.{LivesAs}
use Rattle.ov_grow.specs.Code.Standing.{growth_of}
use Rattle.ov_grow.proofs.Living.{timer_tested}
use Rattle.ov_grow.proofs.growth_in_progress.Growing.timer_runs.Goals as goal

pub returns-in-Some : goal.returns-in-Some
returns-in-Some c =
    timer_tested (growth_of c.args.self.now) c.args.node c.args.id.now c.in-Some.peer.now c.has_timer.result
    (subst (λ w. LivesAs w.net c.args.node c.in-Some.peer.now) c.world.ensures c.in-Some.ensures.some)
    c.has_timer.ensures
