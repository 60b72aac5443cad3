use Rattle.std.proofs.Common.{◌≡◌, length, arith}
use Rattle.ov_grow.specs.Turns.{HasNoPackets, RunOut, Turn}
use Rattle.ov_grow.specs.Code.Standing.{IsNoWay, growth_of}
use Rattle.ov_grow.proofs.Going.{on_all, on_begun, on_more, on_nowhere, passes_on}
use Rattle.ov_grow.proofs.OneGrowth.{run_out_begins, run_out_rest}
use Rattle.ov_grow.proofs.Turning.{none_left, run_out_more, run_out_none, some_left, turn_longer}
use Rattle.ov_grow.proofs.growth_in_progress.Growing.run_out.Goals as goal

pub loop-self-init : goal.loop-self-init
loop-self-init c = on_begun (RunOut c.args.rules.now) c.args.self.now

pub loop-self-smaller : goal.loop-self-smaller
loop-self-smaller c =
    let longer = turn_longer c.args.rules.now (growth_of c.loop-self.self) (growth_of c.turn.new.self)
    c.in_ok-turn.ensures.goes.way in
    omega (arith, longer.more, longer.most)

pub loop-self-preserved : goal.loop-self-preserved
loop-self-preserved c =
    let r = c.args.rules.now in
    let t = c.loop-self.self in
    let v = c.turn.new.self in
    let some : ¬ HasNoPackets (growth_of t) =
    some_left c.packets.result (growth_of t) c.packets.ensures.value c.loop-self-test.true in
    on_more (RunOut r) (RunOut r) (Turn r) (RunOut r) c.args.self.now t v c.loop-self.invariant
    (λ u turn rest. run_out_more r (growth_of t) (growth_of v) u some turn rest)
    (λ u turn out. run_out_rest r (growth_of t) (growth_of v) u some turn out) c.in_ok-turn.ensures.goes

pub returns-in_err-turn-clause-refused : goal.returns-in_err-turn-clause-refused
returns-in_err-turn-clause-refused c =
    let r = c.args.rules.now in
    let b = c.args.self.now in
    let t = c.loop-self.self in
    let fault = c.in_err-turn.field-0.0 in
    let some : ¬ HasNoPackets (growth_of t) =
    some_left c.packets.result (growth_of t) c.packets.ensures.value c.loop-self-test.true in
    passes_on (IsNoWay (RunOut r) b) c.from_residual.result fault c.from_residual.ensures.1
    (on_nowhere (RunOut r) (RunOut r) (Turn r) b t fault c.loop-self.invariant
    (λ u out. run_out_begins r (growth_of t) u some out) c.in_err-turn.ensures.refused)

pub returns-clause-goes : goal.returns-clause-goes
returns-clause-goes c =
    let none : length c.loop-self.self.recording.core.world.net.packets ≡ 0 = omega (arith, c.packets.ensures.value) in
    on_all (RunOut c.args.rules.now) (RunOut c.args.rules.now) c.args.self.now c.loop-self.self c.loop-self.invariant
    (run_out_none c.args.rules.now (growth_of c.loop-self.self) (none_left _ none))
