use Rattle.std.proofs.Common.{refl, inl, inr}
use Rattle.ov_net.specs.declared.fault.NetFault.TheVariants as net_fault
use Rattle.ov_grow.specs.Faults.{of_event}
use Rattle.ov_grow.specs.Growth.{Does}
use Rattle.ov_grow.specs.Code.Standing.{IsNoWay, IsRefusedAct}
use Rattle.ov_grow.specs.declared.fault.GrowFault.TheVariants.{OutOfMemory}
use Rattle.ov_grow.proofs.Acting.{act_goes}
use Rattle.ov_grow.proofs.Going.{passes_on}
use Rattle.ov_grow.proofs.NoTurn.{act_refused}
use Rattle.ov_grow.proofs.growth_in_progress.Growing.act.Goals as goal

pub returns-in_err-act-clause-refused : goal.returns-in_err-act-clause-refused
returns-in_err-act-clause-refused c =
    let f = c.in_err-act.field-0.0 in
    passes_on (IsNoWay (λ s u. Does s c.args.act u) c.args.self.now) c.from_residual.result (of_event f)
    c.from_residual.ensures.1 (act_refused c.args.self.now c.args.act f (of_event f) refl c.in_err-act.ensures.refused)

pub returns-in_err-tell-clause-refused : goal.returns-in_err-tell-clause-refused
returns-in_err-tell-clause-refused c =
    passes_on (IsNoWay (λ s u. Does s c.args.act u) c.args.self.now) c.from_residual-in_err-tell.result OutOfMemory
    c.from_residual-in_err-tell.ensures.1 (inl refl)

pub returns-clause-goes : goal.returns-clause-goes
returns-clause-goes c = act_goes _ _ _ _ _ refl
    (c.in_ok-tell.ensures c.args.self.now.recording.core.world.net c.packets-before.ensures.value
    c.id_made_by-made.ensures)
    c.in_ok-act.ensures.happened.1 c.in_ok-act.ensures.written refl c.script-script.ensures.says

pub returns-in_err-act-clause-judged : goal.returns-in_err-act-clause-judged
returns-in_err-act-clause-judged c =
    let f = c.in_err-act.field-0.0 in
    passes_on (IsRefusedAct c.args.act c.args.self.now) c.from_residual.result (of_event f)
    c.from_residual.ensures.1 (f, refl, c.in_err-act.ensures.refused)

pub returns-in_err-tell-clause-judged : goal.returns-in_err-tell-clause-judged
returns-in_err-tell-clause-judged c =
    passes_on (IsRefusedAct c.args.act c.args.self.now) c.from_residual-in_err-tell.result OutOfMemory
    c.from_residual-in_err-tell.ensures.1
    (net_fault.OutOfMemory, refl, inr (refl, c.in_ok-act.ensures.happened.1.judged))
