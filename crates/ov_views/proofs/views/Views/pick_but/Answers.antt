use Rattle.std.proofs.Common.{◌≡◌, ◌∙◌, ◌<◌, ◌+◌, ◌∷◌, ◌++◌, [], List, ℕ, length, take, sym, ap, arith}
use Rattle.std.proofs.lemmas.Grind.{common_steps}
use Rattle.std.proofs.lemmas.List.{take-set, take_more_set}
use Rattle.ov_views.proofs.Leaving.{nobody_left, stays, goes}
use Rattle.ov_views.proofs.views.Views.pick_but.Goals.{then-is_none_of, else-is_none_of}
use Rattle.ov_views.proofs.views.Views.pick_but.Goals as goal

pub loop-member-init : goal.loop-member-init
loop-member-init c = (sym (nobody_left c.args.ids.now), omega arith)

pub loop-member-preserved : goal.loop-member-preserved
loop-member-preserved c =
    let ids = c.args.ids.now in
    let x = c.member-item.result in
    let others = c.loop-member.others in
    let before = take c.loop-member.member-index c.as_slice-members.result.now in
    let i = c.loop-member.invariant in
    let within : c.loop-member.count < length others = omega (
      arith,
      i.1,
      ap length c.as_slice-members.ensures.value,
      c.self.invariant.active_size,
      c.self.invariant.limits.active_high,
    ) in
    let next : take (c.loop-member.member-index + 1) c.as_slice-members.result.now ≡ before ++ x ∷ [] =
    grind (arith, common_steps) in
    elim c.if-is_none_of.branch [
      | then-is_none_of w ↦ (
        rw (w.count-is, next)
            (take_more_set others c.loop-member.count x within ∙ ap (λ (l : List ℕ). l ++ x ∷ []) i.0
            ∙ sym (stays ids before x (sym c.is_none_of.ensures ∙ w.if-is_none_of.true))),
        omega (arith, w.count-is, i.1),
      )
      | else-is_none_of w ↦ (
        rw (w.count-is, next)
            (take-set others c.loop-member.count x ∙ i.0
            ∙ sym (goes ids before x (sym c.is_none_of.ensures ∙ w.if-is_none_of.false))),
        omega (arith, w.count-is, i.1),
      )
    ]
