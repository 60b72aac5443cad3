use Rattle.std.proofs.Common.{List, ℕ, refl, sym, ap, subst, arith}
use Rattle.ov_views.specs.Allowed.{HyParViewState}
use Rattle.ov_peer.specs.Code.Messages.{AreSendable}
use Rattle.ov_peer.specs.PeerState.{PeerState}
use Rattle.ov_peer.specs.Step.{HyParViewPart}
use Rattle.ov_peer.specs.Planning.{Plans}
use Rattle.ov_peer.specs.declared.input_and_output.Input.TheVariants.{Shuffle}
use Rattle.ov_peer.proofs.Steps.{peer_of}
use Rattle.ov_peer.proofs.Following.{moves_plan}
use Rattle.ov_peer.proofs.peer.Peer.shuffle.Goals as goal

pub returns : goal.returns
returns c =
    let inside = c.self.inside in
    let p = peer_of inside.views inside.attempt inside.sent inside.plum in
    let moves = c.in_ok-moves.moves in
    let g = c.of_moves.result in
    let ok = c.in_ok-moves.ensures in
    let a = ok.allowed in
    let after : HyParViewState = record p.hyparview { sent = c.start.new.sent } in
    let from : List ℕ → HyParViewState = λ list. record p.hyparview { sent = list } in
    let step = λ (list : List ℕ). HyParViewPart (from list) Shuffle a.0 after moves.changes.items moves.sends.items in
    let started = subst step c.in_ok-sent.ensures (a.2 p.hyparview) in
    let plan = moves_plan p Shuffle a.0 moves after g (c.of_moves.ensures p.hyparview) started (refl, (refl, refl)) in
    let sent : AreSendable moves.sends.items = (omega (arith, ok.few, moves.sends.ok.0), ok.ranges) in
    record {
      planned = (a.0, a.1, subst (λ (w : PeerState). Plans w Shuffle a.0 g) c.self.view_is plan);
      words = omega (arith, ok.words);
      sendable = subst AreSendable (sym (ap (λ v. v.items) (c.of_moves.ensures p.hyparview).sends)) sent;
    }
