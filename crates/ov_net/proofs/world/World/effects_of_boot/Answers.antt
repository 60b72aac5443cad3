use Rattle.std.proofs.Common.{ap}
use Rattle.std.proofs.lemmas.Result.{IfOk-weaker}
use Rattle.ov_peer.specs.PeerState.{newborn}
use Rattle.ov_net.specs.World.{WorldState}
use Rattle.ov_net.proofs.Steps.EventEffects.{boot_effects}
use Rattle.ov_net.proofs.world.World.effects_of_boot.Goals as goal

pub returns-clause-effects : goal.returns-clause-effects
returns-clause-effects c =
    IfOk-weaker c.effects_of_birth.result _ _
    (λ b h. boot_effects c.args.self.now.net c.args.node c.args.contact c.args.words.now
    (newborn c.args.node c.self.inside.params) b c.requires
    (ap (λ (w : WorldState). newborn c.args.node w.net.params) c.self.view_is) h)
    c.effects_of_birth.ensures.effects
