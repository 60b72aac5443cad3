use Rattle.std.proofs.Common.{subst, IsTrue, ◌↔◌}
use Rattle.ov_net.specs.Refusals.{IsBorn}
use Rattle.ov_grow.proofs.Living.{has_crashed}
use Rattle.ov_grow.proofs.growth_in_progress.Growing.has_crashed.Goals as goal

pub returns-then-born : goal.returns-then-born
returns-then-born c =
    has_crashed c.args.self.now.recording.core.world.net c.args.node c.born.result c.is_live.result c.if-born.true
    (subst (λ w. IsTrue c.born.result ↔ IsBorn w.net c.args.node) c.world.ensures c.born.ensures) c.is_live.ensures
