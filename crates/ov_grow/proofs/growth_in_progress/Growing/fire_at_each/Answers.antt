use Rattle.std.proofs.Common.{◌<◌, ◌≤◌, Bool, ◌||◌, false, length, subst, arith}
use Rattle.ov_grow.specs.Broadcasts.{FireAtEach}
use Rattle.ov_grow.specs.Code.Standing.{Goes, IsNoWay}
use Rattle.ov_grow.proofs.Going.{goes_on, goes_still, passes_on}
use Rattle.ov_grow.proofs.Broadcasting.{fire_each_end, fire_each_more, or_assoc, or_none}
use Rattle.ov_grow.proofs.NoBroadcast.{left_each_next, no_way_at_each}
use Rattle.ov_grow.proofs.growth_in_progress.Growing.fire_at_each.Goals as goal

pub returns-in_err-more-clause-refused : goal.returns-in_err-more-clause-refused
returns-in_err-more-clause-refused c =
    let within : c.loop-node.node-index < length c.args.nodes.now = omega arith in
    let fault = c.in_err-more.field-0.0 in
    passes_on (IsNoWay (λ s u. (fired : Bool) × FireAtEach c.args.nodes.now c.args.messages.now s fired u)
    c.args.self.now) c.from_residual.result fault c.from_residual.ensures.1
    (no_way_at_each c.args.nodes.now c.args.messages.now c.loop-node.node-index _ c.args.self.now c.loop-node.self
    fault c.loop-node.invariant.1 within c.node-item.is c.in_err-more.ensures.refused)

pub loop-node-preserved : goal.loop-node-preserved
loop-node-preserved c =
    let within : c.loop-node.node-index < length c.args.nodes.now = omega arith in (
      (λ others u more.
          subst (λ b. Goes (λ s v. FireAtEach c.args.nodes.now c.args.messages.now s b v) c.args.self.now u)
          (or_assoc c.loop-node.fired c.in_ok-more.more others)
          (c.loop-node.invariant.0 (c.in_ok-more.more || others) u (goes_on _ _ _ _ _ _
          (λ fires rest. fire_each_more _ _ _ _ _ _ _ _ _ within c.node-item.is fires rest)
          c.in_ok-more.ensures.goes more))),
      left_each_next c.args.nodes.now c.args.messages.now c.loop-node.node-index _ c.in_ok-more.more c.args.self.now
          c.loop-node.self c.fire_at.new.self c.loop-node.invariant.1 within c.node-item.is
          c.in_ok-more.ensures.goes,
    )

pub returns-clause-goes : goal.returns-clause-goes
returns-clause-goes c =
    let past : length c.args.nodes.now ≤ c.loop-node.node-index = omega arith in
    subst (λ b. Goes (λ s v. FireAtEach c.args.nodes.now c.args.messages.now s b v) c.args.self.now c.loop-node.self)
    (or_none c.loop-node.fired)
    (c.loop-node.invariant.0 false c.loop-node.self (goes_still _ _ (fire_each_end _ _ _ _ past)))
