use Rattle.std.proofs.Common.{subst, refl}
use Rattle.ov_net.specs.Net.{LivesAs}
use Rattle.ov_grow.proofs.growth_in_progress.Growing.is_live.Goals as goal

pub returns-in-Some : goal.returns-in-Some
returns-in-Some c = (
  (λ live. (
    c.in-Some.field-0.now,
    subst (λ w. LivesAs w.net c.args.node c.in-Some.field-0.now) c.world.ensures
        c.in-Some.ensures.some,
  )),
  λ live. refl,
)
