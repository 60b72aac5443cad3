use Rattle.std.proofs.Common.{◌≡◌, ◌<◌, length, ap, subst, ◌∙◌, arith}
use Rattle.std.proofs.lemmas.Grind.{common_steps}
use Rattle.ov_grow.specs.Choices.{one_of}
use Rattle.ov_grow.proofs.Ordering.{order_all, order_more}
use Rattle.ov_grow.proofs.Turning.{none_left}
use Rattle.ov_grow.proofs.random_choices.Choices.order.Goals as goal

pub loop-self-preserved : goal.loop-self-preserved
loop-self-preserved c =
    let count : c.len.result ≡ length c.loop-self.left.items = grind (arith, common_steps) in
    order_more _ _ _ _ _ _ _ _ _ _ c.loop-self.invariant
    (c.one_of-place.ensures.value ∙ ap (λ n. one_of n c.loop-self.self) count)
    (subst (λ n. c.one_of-place.result < n) count c.one_of-place.ensures.below)
    c.remove.ensures.value c.remove.ensures.items c.in_ok-push.ensures.items c.one_of-place.ensures.left

pub returns : goal.returns
returns c =
    let none : length c.loop-self.left.items ≡ 0 = grind (arith, common_steps) in
    order_all _ _ _ _ _ c.loop-self.invariant (none_left _ none)
