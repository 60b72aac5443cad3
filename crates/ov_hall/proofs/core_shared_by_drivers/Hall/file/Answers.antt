use Rattle.std.proofs.Common.{subst, sym}
use Rattle.ov_ids.specs.FaultOrder.{IsRefusedBy}
use Rattle.ov_snap.specs.Refusals.{FilingJudged}
use Rattle.ov_snap.specs.declared.refused_core_call.CoreFault.TheVariants.{OutOfMemory}
use Rattle.ov_snap.specs.Logs.{IsLog, core_made}
use Rattle.ov_hall.proofs.Histories.{if_err, if_err_and, if_ok}
use Rattle.ov_hall.proofs.PassCalls as pass
use Rattle.ov_hall.proofs.core_shared_by_drivers.Hall.file.Given as given
use Rattle.ov_hall.proofs.core_shared_by_drivers.Hall.file.Goals as goal

called : (g : given.Over) (c : goal.After-drop-lock g)
    → pass.IsPassCall c.pass.inside.driver c.pass.inside.stand c.file-answer.new.stand c.args.pass
    c.deref_mut.result.now
    c.file-answer.new.self
called g c = record {
  one = c.pass.invariant;
  handed = c.pass.view_is;
  began = c.file-answer.ensures.began;
  seen = c.file-answer.ensures.seen;
}

pub returns-clause-filed : goal.returns-clause-filed
returns-clause-filed g c =
    if_ok c.file-answer.result _ _
    (λ e s. pass.filed _ _ _ _ _ _ (called g c) g.N.HallName.params c.args.report s)
    c.file-answer.ensures.filed

pub returns-clause-err : goal.returns-clause-err
returns-clause-err g c =
    if_err c.file-answer.result _ _ (λ f same. pass.looked _ _ _ _ _ _ (called g c) same) c.file-answer.ensures.err

pub returns-clause-log : goal.returns-clause-log
returns-clause-log g c =
    subst (λ t. IsLog g.N.HallName.params g.N.HallName.drivers t.seen) (sym (pass.given_back _ _ _ _ _ _ (called g c)))
    c.file-answer.ensures.after

pub returns-clause-refused : goal.returns-clause-refused
returns-clause-refused g c =
    if_err_and c.file-answer.result _ _ _
    (λ f r same. pass.judged _ _ _ _ _ _ (called g c) (λ l. IsRefusedBy OutOfMemory
    (FilingJudged (core_made g.N.HallName.params l) c.args.report) f) same r)
    c.file-answer.ensures.refused c.file-answer.ensures.err
