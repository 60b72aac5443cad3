use Rattle.std.proofs.Common.{◌≡◌, ◌∷◌, ap, subst, ◌∙◌}
use Rattle.ov_peer.proofs.Changing.{Telling, told_up, told_down}
use Rattle.ov_views.specs.declared.change.ViewChange.TheVariants.{Up, Down}
use Rattle.ov_peer.proofs.tree_updates.tell.Goals as goal

pub loop-change-preserved-in-Up : goal.loop-change-preserved-in-Up
loop-change-preserved-in-Up c =
    let later = c.in-Some.later.now in
    let first : c.loop-change.left.now ≡ Up c.in-Up.id ∷ later = c.in-Some.ensures.cases.0
    ∙ ap (λ x. x ∷ later) c.in-Up.is in
    told_up _ _ _ _ c.in-Up.id later (subst (Telling c.args.plum.now c.args.changes.now c.loop-change.plum) first
    c.loop-change.invariant) c.up.ensures

pub loop-change-preserved : goal.loop-change-preserved
loop-change-preserved c =
    let later = c.in-Some.later.now in
    let first : c.loop-change.left.now ≡ Down c.in-Down.id ∷ later = c.in-Some.ensures.cases.0
    ∙ ap (λ x. x ∷ later) c.in-Down.is in
    told_down _ _ _ _ c.in-Down.id later
    (subst (Telling c.args.plum.now c.args.changes.now c.loop-change.plum) first c.loop-change.invariant)
    c.down.ensures
