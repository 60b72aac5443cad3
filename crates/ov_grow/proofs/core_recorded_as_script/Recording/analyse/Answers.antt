-- The report is filed as that of the analysis, and the core is that of the script with the line of the analysis.
use Rattle.std.proofs.Common.{rules, ◌≡◌, IfErr, subst, sym}
use Rattle.std.proofs.lemmas.Result.{IfErr-weaker}
use Rattle.ov_ids.specs.FaultOrder.{IsRefusedBy}
use Rattle.ov_scenario.specs.declared.scenario.Line.TheVariants as line
use Rattle.ov_snap.specs.ReportState.{ReportState}
use Rattle.ov_snap.specs.declared.refused_core_call.CoreFault.{CoreFault}
use Rattle.ov_snap.specs.declared.refused_core_call.CoreFault.TheVariants.{OutOfMemory}
use Rattle.ov_run_meaning.specs.Subjects.{AnalysisJudged, WasAnalysed}
use Rattle.ov_run_meaning.proofs.Reports.Filed.{filing_refused}
use Rattle.ov_grow.specs.Recordings.{RecordingState, all_of}
use Rattle.ov_grow.proofs.MakingCores.{made_more, made_room}
use Rattle.ov_grow.proofs.core_recorded_as_script.Recording.analyse.Goals as goal

pub returns-in_err-file-clause-refused : goal.returns-in_err-file-clause-refused
returns-in_err-file-clause-refused c =
    let b = c.self.inside.core in
    let s = all_of c.args.moment in
    let r = c.in_ok-report in
    let f = c.in_err-file.field-0.0 in
    let refused = filing_refused b s r.report f r.ensures.judged r.ensures.filing c.in_err-file.ensures.refused in
    let result = c.from_residual-in_err-file.result in
    subst (λ (x : RecordingState). IfErr result (IsRefusedBy OutOfMemory (AnalysisJudged x.core s))) c.self.view_is
    (IfErr-weaker result (λ (x : CoreFault). x ≡ f) (IsRefusedBy OutOfMemory (AnalysisJudged b s))
    (λ x is. subst (IsRefusedBy OutOfMemory (AnalysisJudged b s)) (sym is) refused) (search rules))

pub invariant_of-self-2 : goal.invariant_of-self-2
invariant_of-self-2 c =
    let b = c.self.inside.core in
    let s = all_of c.args.moment in
    let made = c.in_ok-report.ensures in
    let script = c.reserve.new.self in
    let was : WasAnalysed b s c.in_ok-report.report c.file.new.self = record {
      judged = made.judged;
      moment = made.moment;
      members = made.members;
      answer = made.answer;
      filed = c.in_ok-file.ensures.filed;
    } in
    made_more script c.push_analysis.new.self b c.file.new.self (line.Analyse s 1)
    (made_room c.self.inside.script script b c.in_ok-reserve.ensures.same c.self.invariant)
    c.push_analysis.ensures.lines c.push_analysis.ensures.params
    (c.in_ok-report.report, was)

pub returns-clause-analysed : goal.returns-clause-analysed
returns-clause-analysed c =
    let made = c.in_ok-report.ensures in
    let was : WasAnalysed c.self.inside.core (all_of c.args.moment) c.in_ok-report.report c.file.new.self = record {
      judged = made.judged;
      moment = made.moment;
      members = made.members;
      answer = made.answer;
      filed = c.in_ok-file.ensures.filed;
    } in
    subst (λ (x : RecordingState). (r : ReportState) × WasAnalysed x.core (all_of c.args.moment) r c.file.new.self)
    c.self.view_is (c.in_ok-report.report, was)
