use Rattle.std.proofs.Common.{◌∙◌, refl, sym, ap, subst, arith}
use Rattle.ov_peer.specs.Code.Messages.{AreSendable}
use Rattle.ov_peer.specs.declared.input_and_output.Input.TheVariants.{CrashReport}
use Rattle.ov_peer.proofs.Steps.{peer_of}
use Rattle.ov_peer.proofs.Following.{copied_plan}
use Rattle.ov_peer.proofs.peer.Peer.crash_report.Goals as goal

pub returns : goal.returns
returns c =
    let inside = c.self.inside in
    let p = peer_of inside.views inside.attempt inside.sent inside.plum in
    let moves = c.in_ok-moves.moves in
    let g = c.of_moves.result in
    let of = c.of_moves.ensures in
    let ok = c.in_ok-moves.ensures in
    let a = ok.allowed in
    let plan = copied_plan p _ (CrashReport c.args.crashed) a.0 c.deref_mut.result.now c.hear_of_crash.new.next moves g
    c.self.view_is (c.deref_mut.ensures.value ∙ c.in_ok-next.ensures) of (a.2 p.hyparview) (refl, (refl, refl)) in
    let sent : AreSendable moves.sends.items = (omega (arith, ok.few, moves.sends.ok.0), ok.ranges) in
    record {
      planned = (a.0, a.1, plan);
      words = omega (arith, ok.words);
      sendable = subst AreSendable (sym (ap (λ v. v.items) (of p.hyparview).sends)) sent;
    }
