use Rattle.std.proofs.Common.{◌≤◌, ℕ, List, Option, IfOk, IfSome, length, sym, ap, subst}
use Rattle.ov_wire.specs.declared.message.Message.{Message}
use Rattle.ov_words.proofs.PickLemmas.{none_drawn}
use Rattle.ov_views.specs.Allowed.{hears}
use Rattle.ov_views.specs.Handling.{ViewsStep}
use Rattle.ov_views.specs.declared.step_effects.Moves.{Moves}
use Rattle.ov_peer.specs.Code.GoodPlan.{IsGoodPlan, most_words}
use Rattle.ov_peer.specs.Code.Messages.{AreSendable}
use Rattle.ov_peer.specs.PeerState.{PeerState}
use Rattle.ov_peer.specs.Planning.{Plans}
use Rattle.ov_peer.specs.declared.input_and_output.Input.TheVariants.{Receive}
use Rattle.ov_peer.proofs.Steps.{peer_of, tree_rests}
use Rattle.ov_peer.proofs.Following.{moves_plan}
use Rattle.ov_peer.proofs.peer.Peer.hear.Goals as goal

pub returns-in-Some : goal.returns-in-Some
returns-in-Some c =
    let inside = c.self.inside in
    let p = peer_of inside.views inside.attempt inside.sent inside.plum in
    let message : Message = record { from = c.args.from; body = c.args.body.now } in
    let g = c.of_moves.result in
    let ok = c.in_ok-walked.ensures in
    let a = subst
    (λ (w : Option Moves). IfSome w
    (ViewsStep inside.views c.args.draws.now (hears c.args.from c.args.body.now) inside.views c.walk.new.draws))
    c.in-Some.is ok.allowed in
    let sendable = subst (λ (w : Option Moves). IfSome w (λ m. AreSendable m.sends.items)) c.in-Some.is ok.sendable in
    let rests = tree_rests p.tree c.args.from c.args.body.now c.requires.kind in
    let plan = moves_plan p (Receive message) a.0 c.in-Some.moves p.hyparview g (c.of_moves.ensures p.hyparview)
    (a.2 p.hyparview) rests in
    record {
      planned = (a.0, a.1, subst (λ (w : PeerState). Plans w (Receive message) a.0 g) c.self.view_is plan);
      words = ok.words;
      sendable = subst AreSendable (sym (ap (λ v. v.items) (c.of_moves.ensures p.hyparview).sends)) sendable;
    }

pub handle-requires-clause-words : goal.handle-requires-clause-words
handle-requires-clause-words c =
    let same = none_drawn _ _ _ c.in_ok-walked.ensures.none c.in-None.is in
    subst (λ (d : List ℕ). most_words ≤ length d) (sym same) c.requires.words

pub returns-in-None : goal.returns-in-None
returns-in-None c =
    let message : Message = record { from = c.args.from; body = c.args.body.now } in
    let same = none_drawn _ _ _ c.in_ok-walked.ensures.none c.in-None.is in
    subst
    (λ (d : List ℕ). IfOk c.handle.result (IsGoodPlan c.args.self.now (Receive message) d c.handle.new.draws)) same
    c.handle.ensures
