use Rattle.std.proofs.Common.{◌≡◌, sym, subst}
use Rattle.ov_views.specs.Changes.{after_changes}
use Rattle.ov_peer.specs.Limits.{DrawnFrom}
use Rattle.ov_peer.specs.Step.{PeerStep}
use Rattle.ov_peer.specs.declared.input_and_output.Output.{Output}
use Rattle.ov_peer.proofs.Following.{drawn_step, followed_tracks}
use Rattle.ov_peer.proofs.peer.Peer.step.Goals as goal

pub returns-clause-allowed : goal.returns-clause-allowed
returns-clause-allowed c =
    let p = c.args.self.now in
    let q = c.apply.new.self in
    let i = c.args.input in
    let ok = c.in_ok-apply.ensures in
    let step = drawn_step c.args.words.now p q i c.in_ok-plan.plan c.in_ok-plan.ensures.planned ok.follows in
    let of = λ (o : Output). DrawnFrom c.args.words.now
    (λ cs. PeerStep p i cs q o.sends.items o.changes.items o.delivered) in
    subst of (sym ok.output) step

pub returns-clause-told : goal.returns-clause-told
returns-clause-told c =
    let p = c.args.self.now in
    let q = c.apply.new.self in
    let ok = c.in_ok-apply.ensures in
    let told = (followed_tracks p q c.in_ok-plan.plan c.in_ok-plan.ensures.fits ok.follows).active in
    subst (λ (o : Output). q.hyparview.views.active ≡ after_changes o.changes.items p.hyparview.views.active)
    (sym ok.output) told
