use Rattle.std.proofs.Common.{◌∷◌, map, refl, ap, ◌∙◌, None, Some}
use Rattle.ov_peer.specs.declared.input_and_output.Input.TheVariants.{Boot}
use Rattle.ov_net.specs.NetStep.{change_at}
use Rattle.ov_net.specs.declared.planned_effects.NodeChange.TheVariants as change
use Rattle.ov_net.specs.declared.journal_entry_and_changes.Change.TheVariants.{Born}
use Rattle.ov_net.proofs.Steps.EventEffects.{born_by}
use Rattle.ov_net.proofs.node_planning.boot_newborn.Goals as goal

pub returns-clause-effects : goal.returns-clause-effects
returns-clause-effects c =
    let output = c.in_ok-output.output in
    born_by c.args.node c.args.peer.now (Boot c.args.contact) c.args.words.now c.boot.new.peer
    output.sends.items output.changes.items
    (record {
      taken = None;
      node = Some (c.args.node, change.Born c.boot.new.peer);
      packets = c.in_ok-packets.packets;
      changes = c.in_ok-changes.changes;
      delivery = output.delivered;
    })
    refl refl c.in_ok-output.ensures.steps (c.in_ok-packets.ensures ∙ c.deref.ensures.value)
    (c.in_ok-changes.ensures ∙ ap (λ v. Born c.args.node ∷ map (change_at c.args.node) v) c.deref-2.ensures.value)
