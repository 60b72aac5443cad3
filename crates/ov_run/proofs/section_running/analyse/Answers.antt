-- The analysis began, and its report was filed or not.
use Rattle.std.proofs.Common.{IfOk, subst}
use Rattle.ov_snap.specs.Logs.{core_made}
use Rattle.ov_snap.specs.DriverSteps.{HasBegun}
use Rattle.ov_run.proofs.Blocks.SectionLines.{analysed, not_analysed}
use Rattle.ov_run.proofs.section_running.analyse.Goals as goal

pub returns-in-Ok-clause-filed : goal.returns-in-Ok-clause-filed
returns-in-Ok-clause-filed g c =
    let params = g.N.HallName.params in
    let begun = c.begin-begun.result.1 in
    let began = subst (λ r. IfOk r (λ s. HasBegun (core_made params begun.seen) c.args.moment s)) c.in-Ok.is
    c.begin-begun.ensures.begun in
    analysed params begun c.in-Ok.snapshot c.file_report.result.1 c.args.pass c.args.moment
    c.begin-begun.ensures.seen began c.file_report.result.0 c.file_report.ensures.filed

pub returns-in-Ok-clause-refused : goal.returns-in-Ok-clause-refused
returns-in-Ok-clause-refused g c =
    let params = g.N.HallName.params in
    let begun = c.begin-begun.result.1 in
    let began = subst (λ r. IfOk r (λ s. HasBegun (core_made params begun.seen) c.args.moment s)) c.in-Ok.is
    c.begin-begun.ensures.begun in
    not_analysed params begun c.in-Ok.snapshot c.file_report.result.1 c.args.pass c.args.moment
    c.begin-begun.ensures.seen began c.file_report.result.0 c.file_report.ensures.refused
