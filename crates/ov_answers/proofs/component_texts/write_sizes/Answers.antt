-- One size more, with a comma before it if it is not the first.
use Rattle.std.proofs.Common.{◌∙◌, ◌<◌, length, ap, arith}
use Rattle.ov_answers.proofs.Componentwise.{first_size, next_size}
use Rattle.ov_answers.proofs.component_texts.write_sizes.Goals.{then-place-gt0+in_ok-push, else-place-gt0}
use Rattle.ov_answers.proofs.component_texts.write_sizes.Goals as goal

pub loop-place-preserved : goal.loop-place-preserved
loop-place-preserved c =
    let components = c.args.components.now in
    let i = c.loop-place.place in
    let component = c.component_at.result.now in
    let old = c.args.text.now.items in
    let before = c.loop-place.text.items in
    let begun = c.if-place-gt0.text.items in
    let new = c.write_count.new.text.items in
    let at : i < length components = omega (arith, c.loop-place-test.true, c.len-place-end.ensures) in
    elim c.if-place-gt0.branch [
      | then-place-gt0+in_ok-push w ↦
          next_size components i component old before begun new at w.if-place-gt0.true c.component_at.ensures
          c.loop-place.invariant (ap (λ v. v.items) w.text-is ∙ w.in_ok-push.ensures.items)
          c.in_ok-write_count.ensures
      | else-place-gt0 w ↦
          first_size components i component old begun new at (λ l. omega (arith, l, w.if-place-gt0.false))
          c.component_at.ensures
          (ap (λ v. v.items) w.text-is ∙ c.loop-place.invariant) c.in_ok-write_count.ensures
    ]
