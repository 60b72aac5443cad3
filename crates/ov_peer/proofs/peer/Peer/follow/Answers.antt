use Rattle.std.proofs.Common.{◌≡◌, length, sym, ap, subst, arith}
use Rattle.ov_views.specs.Allowed.{HyParViewState}
use Rattle.ov_peer.specs.PeerState.{PeerState}
use Rattle.ov_peer.specs.Planning.{Follows, IsPlanFor, hyparview_after}
use Rattle.ov_peer.specs.Step.{Told, IsPeerStep}
use Rattle.ov_peer.specs.declared.plan.HyParViewChange.{HyParViewChange}
use Rattle.ov_plum.specs.PlumChange.{plum_after}
use Rattle.ov_plum.specs.PlumState.{PlumState}
use Rattle.ov_plum.specs.declared.plum_change.PlumChange.{PlumChange}
use Rattle.ov_peer.proofs.Counts.{neighbours_fit}
use Rattle.ov_peer.proofs.Steps.{peer_of}
use Rattle.ov_peer.proofs.Following.{peer_changed, peer_followed, fits_tree, fits_tracks, fits_step}
use Rattle.ov_peer.proofs.peer.Peer.follow.Goals as goal

pub apply-requires : goal.apply-requires
apply-requires c =
    let p = peer_of c.self.inside.views c.self.inside.attempt c.self.inside.sent c.self.inside.plum in
    let fits = subst (λ (w : PeerState). IsPlanFor w c.args.plan.now) (sym c.self.view_is) c.requires in
    rw c.replace-plum_change.ensures.value (fits_tree p c.args.plan.now fits)

pub prove-unreachable-requires : goal.prove-unreachable-requires
prove-unreachable-requires c =
    let p = peer_of c.self.inside.views c.self.inside.attempt c.self.inside.sent c.self.inside.plum in
    let middle : PeerState = record { hyparview = p.hyparview; tree = c.apply.new.self } in
    let ok = subst (λ (k : PlumChange). c.apply.new.self ≡ plum_after c.self.inside.plum k)
    c.replace-plum_change.ensures.value c.in_ok-apply.ensures.ok in
    let turned = peer_changed p c.args.plan.now.plum_change c.apply.new.self c.self.invariant ok in
    let few = neighbours_fit middle turned c.eager.ensures.kept.branches in
    let eager = ap length c.eager.ensures.value in
    let lazy = ap length c.lazy.ensures.value in
    absurd (omega (arith, few, eager, lazy, ap length c.active.ensures.value, c.if-prove.true))

pub tell-requires : goal.tell-requires
tell-requires c =
    let p = peer_of c.self.inside.views c.self.inside.attempt c.self.inside.sent c.self.inside.plum in
    let middle : PeerState = record { hyparview = p.hyparview; tree = c.apply.new.self } in
    let ok = subst (λ (k : PlumChange). c.apply.new.self ≡ plum_after c.self.inside.plum k)
    c.replace-plum_change.ensures.value c.in_ok-apply.ensures.ok in
    let turned = peer_changed p c.args.plan.now.plum_change c.apply.new.self c.self.invariant ok in
    let few = neighbours_fit middle turned c.eager.ensures.kept.branches in
    let v = c.active.ensures.views in
    let changes = (fits_tracks _ c.args.plan.now c.requires).few in
    omega (arith, few, changes, v.active_size, v.limits.active_high, ap length c.deref.ensures.value)

pub invariant_of-self-2 : goal.invariant_of-self-2
invariant_of-self-2 c =
    let p = peer_of c.self.inside.views c.self.inside.attempt c.self.inside.sent c.self.inside.plum in
    let m : HyParViewState =
    record { views = c.follow.new.views; attempt = c.follow.new.attempt; sent = c.follow.new.sent } in
    let ok = subst (λ (k : PlumChange). c.apply.new.self ≡ plum_after c.self.inside.plum k)
    c.replace-plum_change.ensures.value c.in_ok-apply.ensures.ok in
    let fits = subst (λ (w : PeerState). IsPlanFor w c.args.plan.now) (sym c.self.view_is) c.requires in
    let n : HyParViewState =
    record { views = c.self.inside.views; attempt = c.self.inside.attempt; sent = c.self.inside.sent } in
    let followed = subst (λ (k : HyParViewChange). m ≡ hyparview_after n k)
    c.replace-views_change.ensures.value c.follow.ensures in
    peer_followed p c.args.plan.now c.apply.new.self c.tell.new.plum m c.self.invariant fits ok
    (rw (← c.deref.ensures.value) c.tell.ensures) followed

pub returns-clause-step : goal.returns-clause-step
returns-clause-step c =
    let p = peer_of c.self.inside.views c.self.inside.attempt c.self.inside.sent c.self.inside.plum in
    let q = peer_of c.follow.new.views c.follow.new.attempt c.follow.new.sent c.tell.new.plum in
    let plan = c.args.plan.now in
    let ok = subst (λ (k : PlumChange). c.apply.new.self ≡ plum_after c.self.inside.plum k)
    c.replace-plum_change.ensures.value c.in_ok-apply.ensures.ok in
    let fits = subst (λ (w : PeerState). IsPlanFor w plan) (sym c.self.view_is) c.requires in
    let told : Told c.apply.new.self plan.changes.items q.tree = rw (← c.deref.ensures.value) c.tell.ensures in
    let follows : Follows p plan q = record {
      hyparview = subst (λ (k : HyParViewChange). q.hyparview ≡ hyparview_after p.hyparview k)
          c.replace-views_change.ensures.value c.follow.ensures;
      told = subst (λ (t : PlumState). Told t plan.changes.items q.tree) ok told;
    } in
    let step = fits_step p q plan fits follows in
    subst (λ (w : PeerState). IsPeerStep w q plan.sends.items plan.changes.items plan.delivered) c.self.view_is step
