use Rattle.std.proofs.Common.{inl, inr, refl}
use Rattle.std.proofs.lemmas.Result.{IfErr-weaker, on_ok_weaker}
use Rattle.ov_grow.specs.Turns.{IsDelivered}
use Rattle.ov_grow.specs.Code.Standing.{IsNoWay, growth_of}
use Rattle.ov_grow.specs.declared.fault.GrowFault.TheVariants.{OutOfMemory}
use Rattle.ov_grow.proofs.Going.{goes_as, goes_on, passes_on}
use Rattle.ov_grow.proofs.NoTurn.{no_way_delivered, no_way_told}
use Rattle.ov_grow.proofs.Turning.{delivered}
use Rattle.ov_grow.proofs.Telling.{delivered_and_told}
use Rattle.ov_grow.specs.Faults.{IsFull}
use Rattle.ov_grow.proofs.Full.{delivered_full, may_be_told}
use Rattle.ov_grow.proofs.growth_in_progress.Growing.deliver.Goals as goal

pub returns-then-not-rules-clause-goes : goal.returns-then-not-rules-clause-goes
returns-then-not-rules-clause-goes c = on_ok_weaker _ (λ did. goes_as _ _ _ _
    (λ d. delivered c.args.rules.now c.args.place (growth_of c.args.self.now) (growth_of c.act.new.self)
    c.if-not-rules.true d) did) c.act.ensures.goes

pub returns-then-not-rules-clause-refused : goal.returns-then-not-rules-clause-refused
returns-then-not-rules-clause-refused c = IfErr-weaker _ _ _ (λ fault none. no_way_delivered c.args.rules.now
    c.args.place c.args.self.now fault none) c.act.ensures.refused

pub returns-in_err-failed-clause-refused : goal.returns-in_err-failed-clause-refused
returns-in_err-failed-clause-refused c =
    passes_on (IsNoWay (IsDelivered c.args.rules.now c.args.place) c.args.self.now) c.from_residual.result OutOfMemory
    c.from_residual.ensures.1 (inl refl)

pub returns-in_err-act-clause-refused : goal.returns-in_err-act-clause-refused
returns-in_err-act-clause-refused c =
    passes_on (IsNoWay (IsDelivered c.args.rules.now c.args.place) c.args.self.now) c.from_residual-in_err-act.result
    c.in_err-act.field-0.0 c.from_residual-in_err-act.ensures.1
    (no_way_delivered c.args.rules.now c.args.place c.args.self.now c.in_err-act.field-0.0
    c.in_err-act.ensures.refused)

pub returns-clause-goes : goal.returns-clause-goes
returns-clause-goes c = on_ok_weaker _ (λ told. goes_on _ _ _ _ _ _
    (λ d t. delivered_and_told c.args.rules.now c.args.place (growth_of c.args.self.now) (growth_of c.act-2.new.self)
    (growth_of c.tell.new.self) c.in_ok-failed.failed c.if-not-rules.false c.in_ok-failed.ensures d t)
    c.in_ok-act.ensures.goes told) c.tell.ensures.goes

pub returns-clause-refused : goal.returns-clause-refused
returns-clause-refused c = IfErr-weaker _ _ _ (λ fault none. no_way_told c.args.rules.now c.args.place
    c.in_ok-failed.failed c.args.self.now c.act-2.new.self fault c.if-not-rules.false c.in_ok-failed.ensures
    c.in_ok-act.ensures.goes none) c.tell.ensures.refused

pub returns-then-not-rules-clause-full : goal.returns-then-not-rules-clause-full
returns-then-not-rules-clause-full c = IfErr-weaker _ _ _ (λ fault judged. delivered_full c.args.self.now
    c.args.place fault c.requires judged) c.act.ensures.judged

pub returns-in_err-failed-clause-full : goal.returns-in_err-failed-clause-full
returns-in_err-failed-clause-full c =
    passes_on IsFull c.from_residual.result OutOfMemory c.from_residual.ensures.1 (inr (inr refl))

pub returns-in_err-act-clause-full : goal.returns-in_err-act-clause-full
returns-in_err-act-clause-full c =
    passes_on IsFull c.from_residual-in_err-act.result c.in_err-act.field-0.0 c.from_residual-in_err-act.ensures.1
    (delivered_full c.args.self.now c.args.place c.in_err-act.field-0.0 c.requires c.in_err-act.ensures.judged)

pub tell-requires : goal.tell-requires
tell-requires c = may_be_told (growth_of c.args.self.now) (growth_of c.act-2.new.self) c.args.place
    c.in_ok-failed.failed (c.in_ok-failed.ensures c.requires) c.in_ok-act.ensures.goes.way
