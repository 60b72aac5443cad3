-- Where there is no memory for the line, the analysis is refused so.
use Rattle.std.proofs.Common.{rules, ◌≡◌, None, inr, subst, sym}
use Rattle.std.proofs.lemmas.Result.{IfErr-weaker}
use Rattle.ov_ids.specs.FaultOrder.{IsRefusedBy}
use Rattle.ov_snap.specs.CoreState.{CoreState}
use Rattle.ov_snap.specs.declared.refused_core_call.CoreFault.{CoreFault}
use Rattle.ov_snap.specs.declared.refused_core_call.CoreFault.TheVariants.{OutOfMemory}
use Rattle.ov_snap.specs.Refusals.{FilingJudged}
use Rattle.ov_run_meaning.specs.Subjects.{AnalysisJudged}
use Rattle.ov_run_meaning.proofs.Reports.Filed.{filing_refused}
use Rattle.ov_run.proofs.report_making_and_filing.file_analysis.Goals as goal

pub returns-in_err-line-clause-refused : goal.returns-in_err-line-clause-refused
returns-in_err-line-clause-refused g c =
    IfErr-weaker c.from_residual-in_err-line.result (λ (f : CoreFault). f ≡ OutOfMemory)
    (IsRefusedBy OutOfMemory (AnalysisJudged c.args.hall.now c.args.subject.now))
    (λ f is. inr (
      is,
      subst (λ (b : CoreState). AnalysisJudged b c.args.subject.now None) c.core.ensures
          c.in_ok-report.ensures.judged,
    )) (search rules)

pub returns-in_err-file-clause-refused : goal.returns-in_err-file-clause-refused
returns-in_err-file-clause-refused g c =
    let b = c.args.hall.now in
    let s = c.args.subject.now in
    let r = c.in_ok-report.report in
    let f = c.in_err-file.field-0.0 in
    let judged = subst (λ (x : CoreState). AnalysisJudged x s None) c.core.ensures c.in_ok-report.ensures.judged in
    let free = subst (λ (x : CoreState). FilingJudged x r None) c.core.ensures c.in_ok-report.ensures.filing in
    let refused = filing_refused b s r f judged free c.in_err-file.ensures.refused in
    IfErr-weaker c.from_residual-in_err-file.result (λ (x : CoreFault). x ≡ f)
    (IsRefusedBy OutOfMemory (AnalysisJudged b s))
    (λ x is. subst (IsRefusedBy OutOfMemory (AnalysisJudged b s)) (sym is) refused) (search rules)

pub returns-clause-analysed : goal.returns-clause-analysed
returns-clause-analysed g c =
    let s = c.args.subject.now in
    let made = c.in_ok-report.ensures in
    let judged = subst (λ (x : CoreState). AnalysisJudged x s None) c.core.ensures made.judged in (
      c.in_ok-report.report,
      record {
        judged = judged;
        moment = made.moment;
        members = made.members;
        answer = made.answer;
        filed = c.in_ok-file.ensures.filed;
      },
      search rules,
    )
