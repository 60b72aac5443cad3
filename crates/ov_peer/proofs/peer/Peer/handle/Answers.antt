use Rattle.std.proofs.Common.{◌∙◌, sym, ap, subst}
use Rattle.ov_wire.specs.declared.message.Message.{Message}
use Rattle.ov_peer.specs.Code.Messages.{AreSendable}
use Rattle.ov_peer.specs.declared.input_and_output.Input.TheVariants.{Receive}
use Rattle.ov_peer.proofs.Steps.{peer_of, tree_rests}
use Rattle.ov_peer.proofs.Following.{copied_plan}
use Rattle.ov_peer.proofs.peer.Peer.handle.Goals as goal

pub returns : goal.returns
returns c =
    let inside = c.self.inside in
    let p = peer_of inside.views inside.attempt inside.sent inside.plum in
    let message : Message = record { from = c.args.from; body = c.args.body.now } in
    let g = c.of_moves.result in
    let of = c.of_moves.ensures in
    let ok = c.in_ok-moves.ensures in
    let a = ok.allowed in
    let rests = tree_rests p.tree c.args.from c.args.body.now c.requires.kind in
    let plan = copied_plan p _ (Receive message) a.0 c.deref_mut.result.now c.hear_next.new.next c.in_ok-moves.moves g
    c.self.view_is (c.deref_mut.ensures.value ∙ c.in_ok-next.ensures) of a.2 rests in
    record {
      planned = (a.0, a.1, plan);
      words = ok.words;
      sendable = subst AreSendable (sym (ap (λ v. v.items) (of p.hyparview).sends)) ok.sendable;
    }
