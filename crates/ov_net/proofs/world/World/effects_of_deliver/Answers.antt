use Rattle.std.proofs.Common.{Some, subst, sym, ap, ◌∙◌}
use Rattle.std.proofs.lemmas.Result.{IfOk-weaker}
use Rattle.ov_peer.specs.PeerState.{PeerState}
use Rattle.ov_peer.specs.declared.input_and_output.Input.TheVariants as input
use Rattle.ov_net.specs.Code.Effects.{AreEffectsOfPlan}
use Rattle.ov_net.specs.declared.member.Member.{Member}
use Rattle.ov_net.proofs.Steps.EventEffects.{deliver_effects}
use Rattle.ov_net.proofs.world.World.effects_of_deliver.Goals as goal

pub returns-in_ok-message-in-Some-Live-clause-effects : goal.returns-in_ok-message-in-Some-Live-clause-effects
returns-in_ok-message-in-Some-Live-clause-effects c =
    IfOk-weaker c.effects_of_input.result _ _
    (λ b h. deliver_effects c.args.self.now.net c.args.place c.packet_at-packet.result.now c.to-to.result
    c.in_ok-message-in-Some-Live.field-0 c.in-Some-Live.peer c.args.words.now b c.requires
    c.packet_at-packet.ensures c.to-to.ensures c.in_ok-message-in-Some-Live.ensures.value
    (sym c.in-Some-Live.ensures ∙ ap (λ (m : Member). Some m) c.in-Some-Live.field-0-is)
    (subst (λ (p : PeerState). AreEffectsOfPlan c.to-to.result (Some c.args.place) p
    (input.Receive c.in_ok-message-in-Some-Live.field-0) c.args.words.now b) c.state.ensures h))
    c.effects_of_input.ensures.effects
