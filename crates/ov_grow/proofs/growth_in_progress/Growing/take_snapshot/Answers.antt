use Rattle.std.proofs.Common.{refl, subst, inl, inr}
use Rattle.ov_script.specs.declared.recordable_event.Act.TheVariants as act
use Rattle.ov_snap.specs.CoreState.{IsSound}
use Rattle.ov_grow.specs.Faults.{of_event}
use Rattle.ov_grow.specs.Growth.{Does}
use Rattle.ov_grow.specs.Code.Standing.{IsNoWay}
use Rattle.ov_grow.specs.declared.fault.GrowFault.TheVariants.{OutOfMemory}
use Rattle.ov_grow.proofs.Acting.{act_goes}
use Rattle.ov_grow.proofs.Going.{passes_on}
use Rattle.ov_grow.proofs.NoPhase.{snapshot_fresh}
use Rattle.ov_grow.proofs.NoTurn.{act_refused}
use Rattle.ov_grow.specs.Faults.{IsFull}
use Rattle.ov_grow.proofs.Full.{snapshot_full}
use Rattle.ov_grow.proofs.growth_in_progress.Growing.take_snapshot.Goals as goal

pub returns-in_err-act-clause-refused : goal.returns-in_err-act-clause-refused
returns-in_err-act-clause-refused c =
    let f = c.in_err-act.field-0.0 in
    passes_on (IsNoWay (λ s u. Does s act.Snapshot u) c.args.self.now) c.from_residual.result (of_event f)
    c.from_residual.ensures.1
    (act_refused c.args.self.now act.Snapshot f (of_event f) refl c.in_err-act.ensures.refused)

pub returns-clause-goes : goal.returns-clause-goes
returns-clause-goes c = act_goes _ _ _ _ _ refl
    (c.in_ok-tell.ensures c.args.self.now.recording.core.world.net c.packets-before.ensures.value refl)
    c.in_ok-act.ensures.happened.1 c.in_ok-act.ensures.written
    refl c.script-script.ensures.says

pub returns-clause-fresh : goal.returns-clause-fresh
returns-clause-fresh c = snapshot_fresh _ _ _ _ (subst (λ b. IsSound b) c.core.ensures c.world-world.ensures.sound)
    c.in_ok-act.ensures.happened.1

pub returns-in_err-tell-clause-refused : goal.returns-in_err-tell-clause-refused
returns-in_err-tell-clause-refused c =
    passes_on (IsNoWay (λ s u. Does s act.Snapshot u) c.args.self.now) c.from_residual-in_err-tell.result OutOfMemory
    c.from_residual-in_err-tell.ensures.1 (inl refl)

pub returns-in_err-tell-clause-full : goal.returns-in_err-tell-clause-full
returns-in_err-tell-clause-full c =
    passes_on IsFull c.from_residual-in_err-tell.result OutOfMemory c.from_residual-in_err-tell.ensures.1
    (inr (inr refl))

pub returns-in_err-act-clause-full : goal.returns-in_err-act-clause-full
returns-in_err-act-clause-full c =
    let f = c.in_err-act.field-0.0 in
    passes_on IsFull c.from_residual.result (of_event f) c.from_residual.ensures.1
    (snapshot_full c.args.self.now f c.in_err-act.ensures.refused)
