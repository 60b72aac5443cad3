use Rattle.std.proofs.Common.{None, Some, sym, subst}
use Rattle.ov_peer.specs.PeerState.{PeerState, newborn}
use Rattle.ov_peer.specs.declared.input_and_output.Input.TheVariants.{Boot}
use Rattle.ov_net.specs.Code.Effects.{AreEffectsOfBirth}
use Rattle.ov_net.specs.declared.planned_effects.Effects.{Effects}
use Rattle.ov_net.specs.declared.planned_effects.NodeChange.TheVariants as change
use Rattle.ov_net.proofs.node_planning.effects_of_birth.Goals as goal

pub returns-clause-effects : goal.returns-clause-effects
returns-clause-effects c =
    let added = c.in_ok-added.added in
    let effects : PeerState → Effects = λ p. record {
      taken = None;
      node = Some (c.args.node, change.Born p);
      packets = added.packets;
      changes = added.changes;
      delivery = added.delivery;
    } in
    let is : PeerState → PeerState → Type 0 = λ p q.
    AreEffectsOfBirth c.args.node p (Boot c.args.contact) c.args.words.now (effects q) in
    subst (λ q. is (newborn c.args.node c.args.params) q) (sym c.in_ok-peer.ensures)
    (subst (λ p. is p c.boot_newborn.new.peer) c.new-peer.ensures c.in_ok-added.ensures.effects)
