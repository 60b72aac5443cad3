use Rattle.std.proofs.Common.{ap, ◌∙◌}
use Rattle.ov_net.specs.declared.planned_effects.Effects.{Effects}
use Rattle.ov_net.proofs.Steps.EventEffects.{lose_effects}
use Rattle.ov_net.proofs.world.World.effects_of_lose.Goals as goal

pub returns-clause-effects : goal.returns-clause-effects
returns-clause-effects c =
    lose_effects c.args.self.now.net c.args.place c.packet_effects.result c.requires
    (record {
      node = ap (λ (b : Effects). b.node) c.packet_effects.ensures;
      place = ap (λ (b : Effects). b.taken) c.packet_effects.ensures;
      more = ap (λ (b : Effects). b.packets.items) c.packet_effects.ensures ∙ c.new.ensures.items;
      changes = ap (λ (b : Effects). b.changes) c.packet_effects.ensures;
      delivery = ap (λ (b : Effects). b.delivery) c.packet_effects.ensures;
    })
