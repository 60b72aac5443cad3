use Rattle.std.proofs.Common.{◌<◌, ◌≤◌, Bool, ◌||◌, false, length, subst, arith}
use Rattle.ov_grow.specs.Broadcasts.{FireAt}
use Rattle.ov_grow.specs.Code.Standing.{Goes, IsNoWay}
use Rattle.ov_grow.proofs.Going.{goes_on, goes_still, passes_on}
use Rattle.ov_grow.proofs.Broadcasting.{fire_at_end, fire_at_more, or_assoc, or_none}
use Rattle.ov_grow.proofs.NoBroadcast.{left_at_next, no_way_at}
use Rattle.ov_grow.proofs.growth_in_progress.Growing.fire_at.Goals as goal

pub returns-in_err-more-clause-refused : goal.returns-in_err-more-clause-refused
returns-in_err-more-clause-refused c =
    let within : c.loop-id.id-index < length c.args.messages.now = omega arith in
    let fault = c.in_err-more.field-0.0 in
    passes_on (IsNoWay (λ s u. (fired : Bool) × FireAt c.args.node c.args.messages.now s fired u) c.args.self.now)
    c.from_residual.result fault c.from_residual.ensures.1
    (no_way_at c.args.node c.args.messages.now c.loop-id.id-index _ c.args.self.now c.loop-id.self fault
    c.loop-id.invariant.1 within c.id-item.is c.in_err-more.ensures.refused)

pub loop-id-preserved : goal.loop-id-preserved
loop-id-preserved c =
    let within : c.loop-id.id-index < length c.args.messages.now = omega arith in (
      (λ others u more.
          subst (λ b. Goes (λ s v. FireAt c.args.node c.args.messages.now s b v) c.args.self.now u)
          (or_assoc c.loop-id.fired c.in_ok-more.more others)
          (c.loop-id.invariant.0 (c.in_ok-more.more || others) u (goes_on _ _ _ _ _ _
          (λ fires rest. fire_at_more _ _ _ _ _ _ _ _ _ within c.id-item.is fires rest) c.in_ok-more.ensures.goes
          more))),
      left_at_next c.args.node c.args.messages.now c.loop-id.id-index _ c.in_ok-more.more c.args.self.now
          c.loop-id.self c.fire_if_it_runs.new.self c.loop-id.invariant.1 within c.id-item.is
          c.in_ok-more.ensures.goes,
    )

pub returns-clause-goes : goal.returns-clause-goes
returns-clause-goes c =
    let past : length c.args.messages.now ≤ c.loop-id.id-index = omega arith in
    subst (λ b. Goes (λ s v. FireAt c.args.node c.args.messages.now s b v) c.args.self.now c.loop-id.self)
    (or_none c.loop-id.fired)
    (c.loop-id.invariant.0 false c.loop-id.self (goes_still _ _ (fire_at_end _ _ _ _ past)))
