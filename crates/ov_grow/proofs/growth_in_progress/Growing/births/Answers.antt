use Rattle.std.proofs.Common.{◌≡◌, ◌<◌, ◌≤◌, ◌+◌, ◌-◌, ◌∙◌, suc, Some, refl, sym, arith, subst}
use Rattle.ov_net.specs.Limits.{most_world_nodes}
use Rattle.ov_script.specs.declared.recordable_event.Act.TheVariants as act
use Rattle.ov_grow.specs.Growth.{Does}
use Rattle.ov_grow.specs.Turns.{TurnsUpTo}
use Rattle.ov_grow.specs.Phases.{Births}
use Rattle.ov_grow.specs.Code.Standing.{AreBorn, IsNoWay, growth_of}
use Rattle.ov_grow.specs.declared.growth_in_progress.Growing.{Growing}
use Rattle.ov_grow.proofs.Going.{IsOn, chosen, no_way_by, on_all, on_begun, on_nowhere, passes_on}
use Rattle.ov_grow.specs.Faults.{IsFull}
use Rattle.ov_grow.proofs.Full.{next_born_full}
use Rattle.ov_grow.proofs.Keeping.{bear_more, bear_turns, born_turns, one_born}
use Rattle.ov_grow.proofs.NoJoin.{birth_next, births_begin, births_left}
use Rattle.ov_grow.proofs.Ways.{births_end, births_more}
use Rattle.ov_grow.proofs.growth_in_progress.Growing.births.Goals as goal

pub loop-id-init : goal.loop-id-init
loop-id-init c =
    let r = c.args.rules.now in
    let p = c.args.pace in
    let b = c.args.self.now in
    let all : c.args.nodes + 1 - 2 ≡ c.args.nodes - 1 = omega arith in (
      subst (λ k. IsOn (Births r p 2 (c.args.nodes - 1)) (Births r p 2 k) b b) (sym all)
          (on_begun (Births r p 2 (c.args.nodes - 1)) b),
      c.requires.born,
      c.requires.few,
    )

pub returns-in_err-turns-clause-refused : goal.returns-in_err-turns-clause-refused
returns-in_err-turns-clause-refused c =
    let r = c.args.rules.now in
    let p = c.args.pace in
    let b = c.args.self.now in
    let t = c.loop-id.self in
    let n = c.args.nodes + 1 - c.loop-id.id in
    let m = c.args.nodes + 1 - (c.loop-id.id + 1) in
    let one : n ≡ suc m = omega arith in
    let fault = c.in_err-turns.field-0.0 in
    passes_on (IsNoWay (Births r p 2 (c.args.nodes - 1)) b) c.from_residual.result fault
    c.from_residual.ensures.1
    (on_nowhere (Births r p 2 (c.args.nodes - 1)) (Births r p c.loop-id.id n) (TurnsUpTo r p) b t fault
    c.loop-id.invariant.0 (λ u births. births_begin r p c.loop-id.id n m (growth_of t) u one births)
    c.in_err-turns.ensures.refused)

pub returns-in_err-act-clause-refused : goal.returns-in_err-act-clause-refused
returns-in_err-act-clause-refused c =
    let r = c.args.rules.now in
    let p = c.args.pace in
    let b = c.args.self.now in
    let t = c.turns.new.self in
    let v : Growing = record t { choices = c.one_of.new.self } in
    let n = c.args.nodes + 1 - c.loop-id.id in
    let m = c.args.nodes + 1 - (c.loop-id.id + 1) in
    let one : n ≡ suc m = omega arith in
    let contact : c.new-in-loop-id.result ≡ 1 + c.one_of.result = c.new-in-loop-id.ensures in
    let fault = c.in_err-act.field-0.0 in
    let chooses = chosen t (c.loop-id.id - 1) (c.loop-id.id - 1) c.one_of.result c.one_of.new.self refl
    c.one_of.ensures.value c.one_of.ensures.left in
    passes_on (IsNoWay (Births r p 2 (c.args.nodes - 1)) b) c.from_residual-in_err-act.result fault
    c.from_residual-in_err-act.ensures.1
    (no_way_by (λ s u. Does s (act.Boot c.new.result (Some c.new-in-loop-id.result)) u)
    (Births r p 2 (c.args.nodes - 1)) v b fault
    (λ u births. birth_next r p c.loop-id.id n m c.one_of.result c.new.result c.new-in-loop-id.result
    (growth_of c.loop-id.self) (growth_of t) (growth_of v) u one c.in_ok-turns.ensures.goes.way chooses
    c.new.ensures contact (c.loop-id.invariant.0.leads u births)) c.in_err-act.ensures.refused)

pub loop-id-preserved : goal.loop-id-preserved
loop-id-preserved c =
    let r = c.args.rules.now in
    let p = c.args.pace in
    let id = c.loop-id.id in
    let s = c.loop-id.self in
    let t = c.turns.new.self in
    let v : Growing = record t { choices = c.one_of.new.self } in
    let w = c.act.new.self in
    let n = c.args.nodes + 1 - id in
    let m = c.args.nodes + 1 - (id + 1) in
    let one : n ≡ suc m = omega arith in
    let contact : c.new-in-loop-id.result ≡ 1 + c.one_of.result = c.new-in-loop-id.ensures in
    let chooses = chosen t (id - 1) (id - 1) c.one_of.result c.one_of.new.self refl
    c.one_of.ensures.value c.one_of.ensures.left in
    let before : id ≡ id - 1 + 1 = omega arith in
    let after : id - 1 + 1 ≡ id + 1 - 1 = omega arith in
    let born = born_turns r p (id - 1) (growth_of s) (growth_of t) c.in_ok-turns.ensures.goes.way
    c.loop-id.invariant.1 in (
      record {
        goes = λ u more. c.loop-id.invariant.0.goes u (births_more r p id n m c.one_of.result c.new.result
            c.new-in-loop-id.result s t v w u one c.in_ok-turns.ensures.goes chooses refl c.new.ensures contact
            c.in_ok-act.ensures.goes more);
        leads = λ u births. births_left r p id n m c.one_of.result c.new.result c.new-in-loop-id.result
            (growth_of s) (growth_of t) (growth_of v) (growth_of w) u one c.in_ok-turns.ensures.goes.way chooses
            c.new.ensures contact c.in_ok-act.ensures.goes.way (c.loop-id.invariant.0.leads u births);
      },
      subst (λ k. AreBorn k (growth_of w)) after
          (one_born (id - 1) c.new.result (Some c.new-in-loop-id.result) (growth_of v) (growth_of w) born
          (c.new.ensures ∙ before) c.in_ok-act.ensures.goes.way),
      bear_more c.args.nodes (growth_of v) (growth_of w) (act.Boot c.new.result (Some c.new-in-loop-id.result))
          c.in_ok-act.ensures.goes.way (bear_turns r p c.args.nodes (growth_of s) (growth_of t)
          c.in_ok-turns.ensures.goes.way c.loop-id.invariant.2),
    )

pub returns-in_err-act-clause-full : goal.returns-in_err-act-clause-full
returns-in_err-act-clause-full c =
    let r = c.args.rules.now in
    let p = c.args.pace in
    let id = c.loop-id.id in
    let s = c.loop-id.self in
    let t = c.turns.new.self in
    let v : Growing = record t { choices = c.one_of.new.self } in
    let fault = c.in_err-act.field-0.0 in
    let before : id ≡ id - 1 + 1 = omega arith in
    let born = born_turns r p (id - 1) (growth_of s) (growth_of t) c.in_ok-turns.ensures.goes.way
    c.loop-id.invariant.1 in
    let contact : c.new-in-loop-id.result ≡ 1 + c.one_of.result = c.new-in-loop-id.ensures in
    let least : 1 ≤ c.new-in-loop-id.result = omega (arith, contact) in
    let most : c.new-in-loop-id.result ≤ id - 1 = omega (arith, contact, c.one_of.ensures.below) in
    let may = bear_turns r p c.args.nodes (growth_of s) (growth_of t) c.in_ok-turns.ensures.goes.way
    c.loop-id.invariant.2 in
    let few : id - 1 < most_world_nodes (growth_of v).world.net.params = omega (arith, may) in
    passes_on IsFull c.from_residual-in_err-act.result fault c.from_residual-in_err-act.ensures.1
    (next_born_full v (id - 1) c.new.result c.new-in-loop-id.result fault born (c.new.ensures ∙ before) least most few
    c.in_err-act.ensures.judged)

pub returns-clause-goes : goal.returns-clause-goes
returns-clause-goes c =
    let r = c.args.rules.now in
    let p = c.args.pace in
    let n = c.args.nodes + 1 - c.loop-id.id in
    let none : n ≡ 0 = omega arith in
    on_all (Births r p 2 (c.args.nodes - 1)) (Births r p c.loop-id.id n) c.args.self.now c.loop-id.self
    c.loop-id.invariant.0 (births_end r p c.loop-id.id n (growth_of c.loop-id.self) none)
