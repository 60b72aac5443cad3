use Rattle.std.proofs.Common.{◌≡◌, ◌+◌, ◌∷◌, drop, arith}
use Rattle.std.proofs.lemmas.Grind.{common_steps}
use Rattle.ov_ids.proofs.Sets.{IsSet-without, length-without}
use Rattle.ov_views.proofs.views.Views.all_but.Goals as goal

pub loop-id-preserved : goal.loop-id-preserved
loop-id-preserved c =
    let next : drop c.loop-id.id-index c.args.ids.now ≡ c.id-item.result ∷ drop (c.loop-id.id-index + 1)
    c.args.ids.now = grind (arith, common_steps) in
    rw c.remove.ensures.value (
      IsSet-without _ _ c.loop-id.invariant.0,
      rw next at c.loop-id.invariant.1,
      omega (arith, c.loop-id.invariant.2, length-without c.id-item.result c.loop-id.rest),
    )
