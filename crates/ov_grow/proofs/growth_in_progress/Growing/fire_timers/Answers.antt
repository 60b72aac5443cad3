use Rattle.std.proofs.Common.{arith}
use Rattle.ov_grow.specs.Broadcasts.{TimersFire}
use Rattle.ov_grow.specs.Code.Standing.{IsNoWay, growth_of}
use Rattle.ov_grow.proofs.Going.{on_begun, passes_on}
use Rattle.ov_grow.proofs.Turning.{longer_by, run_out_as_long}
use Rattle.ov_grow.proofs.Broadcasting.{fire_longer}
use Rattle.ov_grow.proofs.NoBroadcast.{left_timers, no_way_fired, no_way_timers}
use Rattle.ov_grow.proofs.Ways.{timers_rest}
use Rattle.ov_grow.proofs.growth_in_progress.Growing.fire_timers.Goals as goal

pub loop-self-init : goal.loop-self-init
loop-self-init c = on_begun (TimersFire c.args.rules.now c.args.messages.now) c.args.self.now

pub loop-self-smaller : goal.loop-self-smaller
loop-self-smaller c =
    let first = fire_longer c.args.messages.now (growth_of c.loop-self.self) (growth_of c.fire.new.self)
    c.in_ok-fire.field-0 c.if-branch.true c.in_ok-fire.ensures.goes.way in
    let all = longer_by (growth_of c.loop-self.self) (growth_of c.fire.new.self) (growth_of c.run_out.new.self) first
    (run_out_as_long c.args.rules.now (growth_of c.fire.new.self) (growth_of c.run_out.new.self)
    c.in_ok-run_out.ensures.goes.way) in
    omega (arith, all.more, all.most)

pub returns-in_err-fire-clause-refused : goal.returns-in_err-fire-clause-refused
returns-in_err-fire-clause-refused c =
    let fault = c.in_err-fire.field-0.0 in
    passes_on (IsNoWay (TimersFire c.args.rules.now c.args.messages.now) c.args.self.now)
    c.from_residual.result fault c.from_residual.ensures.1
    (no_way_timers c.args.rules.now c.args.messages.now c.args.self.now c.loop-self.self fault c.loop-self.invariant
    c.in_err-fire.ensures.refused)

pub returns-in_err-run_out-clause-refused : goal.returns-in_err-run_out-clause-refused
returns-in_err-run_out-clause-refused c =
    let fault = c.in_err-run_out.field-0.0 in
    passes_on (IsNoWay (TimersFire c.args.rules.now c.args.messages.now) c.args.self.now)
    c.from_residual-in_err-run_out.result fault c.from_residual-in_err-run_out.ensures.1
    (no_way_fired c.args.rules.now c.args.messages.now c.in_ok-fire.field-0 c.args.self.now c.loop-self.self
    c.fire.new.self fault c.loop-self.invariant c.if-branch.true c.in_ok-fire.ensures.goes
    c.in_err-run_out.ensures.refused)

pub loop-self-preserved : goal.loop-self-preserved
loop-self-preserved c = left_timers c.args.rules.now c.args.messages.now c.in_ok-fire.field-0 c.args.self.now
    c.loop-self.self c.fire.new.self c.run_out.new.self c.loop-self.invariant c.if-branch.true
    c.in_ok-fire.ensures.goes c.in_ok-run_out.ensures.goes

pub returns-clause-goes : goal.returns-clause-goes
returns-clause-goes c = c.loop-self.invariant.goes c.fire.new.self (timers_rest c.args.rules.now c.args.messages.now
    c.in_ok-fire.field-0 c.loop-self.self c.fire.new.self c.if-branch.false c.in_ok-fire.ensures.goes)
