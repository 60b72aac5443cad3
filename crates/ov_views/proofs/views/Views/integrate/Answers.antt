use Rattle.std.proofs.Common.{◌≡◌, ◌+◌, [], ◌∷◌, drop, arith, ap}
use Rattle.std.proofs.Math.ListN.{drop_of_length-le}
use Rattle.std.proofs.lemmas.Grind.{common_steps}
use Rattle.ov_ids.specs.ParamsState.{ParamsState}
use Rattle.ov_views.proofs.Integrating.{integrated_more, integrated_all}
use Rattle.ov_views.proofs.Sufficing.{taken_params, first_taken, rest_taken}
use Rattle.ov_views.proofs.views.Views.integrate.Goals as goal

pub take_in-left-requires : goal.take_in-left-requires
take_in-left-requires c =
    let next : drop c.loop-id.id-index c.args.ids.now ≡ c.id-item.result ∷ drop (c.loop-id.id-index + 1)
    c.args.ids.now = grind (arith, common_steps) in
    first_taken c.loop-id.self c.id-item.result (drop (c.loop-id.id-index + 1) c.args.ids.now) c.loop-id.left.now
    c.loop-id.draws c.loop-id.invariant.3 (rw next at c.loop-id.invariant.2)

pub loop-id-preserved : goal.loop-id-preserved
loop-id-preserved c =
    let next : drop c.loop-id.id-index c.args.ids.now ≡ c.id-item.result ∷ drop (c.loop-id.id-index + 1)
    c.args.ids.now = grind (arith, common_steps) in
    let taken = c.take_in-left.ensures.drawn in
    let same : c.take_in-left.new.self.params.passive ≡ c.loop-id.self.params.passive =
    ap (λ (p : ParamsState). p.passive)
    (taken_params c.loop-id.self c.id-item.result c.loop-id.left.now taken.0 c.take_in-left.new.self
    c.take_in-left.result.now taken.2) in (
      integrated_more _ _ _ _ _ _ _ _ _ _ _ _ (rw next at c.loop-id.invariant.0) taken,
      omega (arith, c.loop-id.invariant.1),
      rest_taken c.loop-id.self c.id-item.result (drop (c.loop-id.id-index + 1) c.args.ids.now) c.loop-id.left.now
          c.loop-id.draws c.take_in-left.new.self _ _ (rw next at c.loop-id.invariant.2) taken,
      omega (arith, same, c.loop-id.invariant.3),
    )

pub returns-clause-drawn : goal.returns-clause-drawn
returns-clause-drawn c =
    let none : drop c.loop-id.id-index c.args.ids.now ≡ [] = drop_of_length-le c.args.ids.now (omega arith) in
    integrated_all _ _ _ _ _ _ _ (rw none at c.loop-id.invariant.0)
