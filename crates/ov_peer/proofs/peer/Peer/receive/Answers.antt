use Rattle.std.proofs.Common.{◌≡◌, [], refl, arith}
use Rattle.ov_wire.specs.declared.message.Body.TheVariants.{Gossip, IHave, Graft, Prune}
use Rattle.ov_wire.specs.declared.message.Message.{Message}
use Rattle.ov_plum.specs.PlumRows.{receives}
use Rattle.ov_peer.proofs.Steps.{peer_of}
use Rattle.ov_peer.proofs.Following.{TreeHears, HeardByTree, heard_as, heard_plan, tree_sendable}
use Rattle.ov_peer.proofs.peer.Peer.receive.Goals.{in-Gossip+in_ok-planned-in-Gossip, in-IHave}
use Rattle.ov_peer.proofs.peer.Peer.receive.Goals.{in-Graft+in_ok-planned-in-Graft, in-Prune}
use Rattle.ov_peer.proofs.peer.Peer.receive.Goals as goal

pub returns : goal.returns
returns c =
    let inside = c.self.inside in
    let p = peer_of inside.views inside.attempt inside.sent inside.plum in
    let from = c.args.message.from in
    let body = c.args.message.body in
    let planned = c.match-message.planned in
    let heard : HeardByTree p from body planned =
    elim c.match-message.branch [
      | in-Gossip+in_ok-planned-in-Gossip w ↦
          let is : body ≡ Gossip w.in-Gossip.id w.in-Gossip.round w.in-Gossip.payload = w.in-Gossip.is in
          let t : TreeHears p.tree from (Gossip w.in-Gossip.id w.in-Gossip.round w.in-Gossip.payload)
          w.in_ok-planned-in-Gossip.planned = rw w.in-Gossip.is at w.in_ok-planned-in-Gossip.ensures in
          heard_as p from (Gossip w.in-Gossip.id w.in-Gossip.round w.in-Gossip.payload) body
          w.in_ok-planned-in-Gossip.planned planned is w.planned-is ((refl, refl, refl), refl) t
      | in-IHave w ↦
          let is : body ≡ IHave w.in-IHave.id = w.in-IHave.is in
          let t : TreeHears p.tree from (IHave w.in-IHave.id) w.plan_ihave-planned.result =
          rw w.in-IHave.is at w.plan_ihave-planned.ensures in
          heard_as p from (IHave w.in-IHave.id) body w.plan_ihave-planned.result planned is w.planned-is
          ((refl, refl, refl), refl) t
      | in-Graft+in_ok-planned-in-Graft w ↦
          let is : body ≡ Graft w.in-Graft.id = w.in-Graft.is in
          let t : TreeHears p.tree from (Graft w.in-Graft.id) w.in_ok-planned-in-Graft.planned =
          rw w.in-Graft.is at w.in_ok-planned-in-Graft.ensures in
          heard_as p from (Graft w.in-Graft.id) body w.in_ok-planned-in-Graft.planned planned is w.planned-is
          ((refl, refl, refl), refl) t
      | in-Prune w ↦
          let is : body ≡ Prune = w.in-Prune.is in
          let t : TreeHears p.tree from Prune w.plan_prune-planned.result = w.plan_prune-planned.ensures.allowed in
          heard_as p from Prune body w.plan_prune-planned.result planned is w.planned-is ((refl, refl, refl), refl) t
    ] in
    let of = c.of_tree.ensures in
    let plan = heard_plan _ p _ from body planned c.of_tree.result c.self.view_is c.me.ensures.value of.sends of.changes
    of.delivered of.views_change of.plum_change heard in
    let message : Message = record { from = from; body = body } in
    let sendable = tree_sendable p.tree (receives message) planned c.of_tree.result of.sends heard.tree in
    record { planned = ([], refl, plan); words = omega arith; sendable = sendable }
