use Rattle.std.proofs.Common.{◌≡◌, ◌+◌, ◌-◌, suc, arith, subst, sym}
use Rattle.ov_grow.specs.Rounds.{Round, Rounds}
use Rattle.ov_grow.specs.Code.Standing.{IsNoWay, growth_of}
use Rattle.ov_grow.proofs.Going.{IsOn, on_all, on_begun, on_more, on_nowhere, passes_on}
use Rattle.ov_grow.proofs.OnePhase.{rounds_rest}
use Rattle.ov_grow.proofs.Rounding.{rounds_begin, rounds_end, rounds_more}
use Rattle.ov_grow.proofs.growth_in_progress.Growing.rounds.Goals as goal

pub loop-round-init : goal.loop-round-init
loop-round-init c =
    let r = c.args.rules.now in
    let b = c.args.self.now in
    let all : c.args.count - 0 ≡ c.args.count = omega arith in
    subst (λ k. IsOn (Rounds r c.args.count) (Rounds r k) b b) (sym all) (on_begun (Rounds r c.args.count) b)

pub returns-in_err-round-clause-refused : goal.returns-in_err-round-clause-refused
returns-in_err-round-clause-refused c =
    let r = c.args.rules.now in
    let b = c.args.self.now in
    let t = c.loop-round.self in
    let n = c.args.count - c.loop-round._round in
    let m = c.args.count - (c.loop-round._round + 1) in
    let fault = c.in_err-round.field-0.0 in
    let one : n ≡ suc m = omega arith in
    passes_on (IsNoWay (Rounds r c.args.count) b) c.from_residual.result fault c.from_residual.ensures.1
    (on_nowhere (Rounds r c.args.count) (Rounds r n) (Round r) b t fault c.loop-round.invariant
    (λ u left. rounds_begin r n m (growth_of t) u one left) c.in_err-round.ensures.refused)

pub loop-round-preserved : goal.loop-round-preserved
loop-round-preserved c =
    let r = c.args.rules.now in
    let t = c.loop-round.self in
    let v = c.round.new.self in
    let n = c.args.count - c.loop-round._round in
    let m = c.args.count - (c.loop-round._round + 1) in
    let one : n ≡ suc m = omega arith in
    on_more (Rounds r c.args.count) (Rounds r n) (Round r) (Rounds r m) c.args.self.now t v c.loop-round.invariant
    (λ u round rest. rounds_more r n m (growth_of t) (growth_of v) u one round rest)
    (λ u round left. rounds_rest r m (growth_of t) (growth_of v) u round
    (subst (λ k. Rounds r k (growth_of t) u) one left)) c.in_ok-round.ensures.goes

pub returns-clause-goes : goal.returns-clause-goes
returns-clause-goes c =
    let r = c.args.rules.now in
    let n = c.args.count - c.loop-round._round in
    let none : n ≡ 0 = omega arith in
    on_all (Rounds r c.args.count) (Rounds r n) c.args.self.now c.loop-round.self c.loop-round.invariant
    (rounds_end r n (growth_of c.loop-round.self) none)
