use Rattle.std.proofs.Common.{◌≡◌, ◌<◌, ◌+◌, ◌-◌, suc, length, arith, subst, sym}
use Rattle.ov_grow.specs.Turns.{HasNoPackets, Turn, TurnsUpTo}
use Rattle.ov_grow.specs.Code.Standing.{IsNoWay, growth_of}
use Rattle.ov_grow.proofs.Going.{IsOn, on_all, on_begun, on_more, on_nowhere, passes_on}
use Rattle.ov_grow.proofs.OneGrowth.{turns_begin, turns_rest}
use Rattle.ov_grow.proofs.Turning.{none_left, some_left, turns_end, turns_more, turns_none}
use Rattle.ov_grow.proofs.growth_in_progress.Growing.turns.Goals as goal

pub loop-turn-init : goal.loop-turn-init
loop-turn-init c =
    let r = c.args.rules.now in
    let b = c.args.self.now in
    let all : c.args.most - 0 ≡ c.args.most = omega arith in
    subst (λ k. IsOn (TurnsUpTo r c.args.most) (TurnsUpTo r k) b b) (sym all) (on_begun (TurnsUpTo r c.args.most) b)

pub returns-then-packets-eq0-clause-goes : goal.returns-then-packets-eq0-clause-goes
returns-then-packets-eq0-clause-goes c =
    let r = c.args.rules.now in
    let n = c.args.most - c.loop-turn._turn in
    let none : length c.loop-turn.self.recording.core.world.net.packets ≡ 0 =
    omega (arith, c.packets.ensures.value, c.if-packets-eq0.true) in
    let one : n ≡ suc (c.args.most - (c.loop-turn._turn + 1)) = omega arith in
    on_all (TurnsUpTo r c.args.most) (TurnsUpTo r n) c.args.self.now c.loop-turn.self c.loop-turn.invariant
    (turns_none r _ _ (growth_of c.loop-turn.self) one (none_left _ none))

pub returns-in_err-turn-clause-refused : goal.returns-in_err-turn-clause-refused
returns-in_err-turn-clause-refused c =
    let r = c.args.rules.now in
    let b = c.args.self.now in
    let t = c.loop-turn.self in
    let n = c.args.most - c.loop-turn._turn in
    let m = c.args.most - (c.loop-turn._turn + 1) in
    let fault = c.in_err-turn.field-0.0 in
    let more : 0 < c.packets.result = omega (arith, c.if-packets-eq0.false) in
    let some : ¬ HasNoPackets (growth_of t) =
    some_left c.packets.result (growth_of t) c.packets.ensures.value more in
    let one : n ≡ suc m = omega arith in
    passes_on (IsNoWay (TurnsUpTo r c.args.most) b) c.from_residual.result fault c.from_residual.ensures.1
    (on_nowhere (TurnsUpTo r c.args.most) (TurnsUpTo r n) (Turn r) b t fault c.loop-turn.invariant
    (λ u left. turns_begin r m (growth_of t) u some (subst (λ k. TurnsUpTo r k (growth_of t) u) one left))
    c.in_err-turn.ensures.refused)

pub loop-turn-preserved : goal.loop-turn-preserved
loop-turn-preserved c =
    let r = c.args.rules.now in
    let t = c.loop-turn.self in
    let v = c.turn.new.self in
    let n = c.args.most - c.loop-turn._turn in
    let m = c.args.most - (c.loop-turn._turn + 1) in
    let more : 0 < c.packets.result = omega (arith, c.if-packets-eq0.false) in
    let some : ¬ HasNoPackets (growth_of t) =
    some_left c.packets.result (growth_of t) c.packets.ensures.value more in
    let one : n ≡ suc m = omega arith in
    on_more (TurnsUpTo r c.args.most) (TurnsUpTo r n) (Turn r) (TurnsUpTo r m) c.args.self.now t v
    c.loop-turn.invariant
    (λ u turn rest. turns_more r n m (growth_of t) (growth_of v) u one some turn rest)
    (λ u turn left. turns_rest r m (growth_of t) (growth_of v) u some turn
    (subst (λ k. TurnsUpTo r k (growth_of t) u) one left)) c.in_ok-turn.ensures.goes

pub returns-clause-goes : goal.returns-clause-goes
returns-clause-goes c =
    let r = c.args.rules.now in
    let n = c.args.most - c.loop-turn._turn in
    let none : n ≡ 0 = omega arith in
    on_all (TurnsUpTo r c.args.most) (TurnsUpTo r n) c.args.self.now c.loop-turn.self c.loop-turn.invariant
    (turns_end r n (growth_of c.loop-turn.self) none)
