use Rattle.std.proofs.Common.{sym, subst}
use Rattle.ov_peer.specs.Step.{IsPeerStep}
use Rattle.ov_peer.specs.declared.input_and_output.Output.{Output}
use Rattle.ov_peer.proofs.peer.Peer.apply.Goals as goal

pub returns-clause-step : goal.returns-clause-step
returns-clause-step c =
    let q = c.follow.new.self in
    let P : Output → Type 0 = λ o. IsPeerStep c.args.self.now q o.sends.items o.changes.items o.delivered in
    subst P (sym c.follow.ensures.output) c.in_ok-follow.ensures.step
