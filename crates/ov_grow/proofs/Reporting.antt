-- What is known of a report that is looked for before an analysis of all nodes begins.
use Rattle.std.proofs.Common.{◌≡◌, ℕ, true, false, Bor, Option, Some, None, IfSome, IfNone, is_some}
use Rattle.ov_ids.specs.FaultOrder.{IsRefusedBy}
use Rattle.ov_snap.specs.CoreState.{CoreState, HasReportOfAll}
use Rattle.ov_snap.specs.ReportState.{ReportState, IsTrueReport}
use Rattle.ov_snap.specs.declared.refused_core_call.CoreFault.TheVariants.{AlreadyFiled, OutOfMemory}
use Rattle.ov_run_meaning.specs.Subjects.{AnalysisJudged, IsReportOf}
use Rattle.ov_run_meaning.proofs.Reports.Filed.{filed_refused}
use Rattle.ov_grow.specs.Recordings.{all_of}

-- one is found: the analysis is refused
pub refused_again : (b : CoreState) (m : ℕ) (found : Option (Bor ReportState))
    → IfSome found (λ r. HasReportOfAll b m r.now) → IfSome found (λ r. IsTrueReport b.world.journal r.now)
    → true ≡ is_some found → IsRefusedBy OutOfMemory (AnalysisJudged b (all_of m)) AlreadyFiled
refused_again b m (Some r) filed exact is = filed_refused b (all_of m) r.now filed exact
refused_again b m None filed exact is = absurd cc

-- none is found: none is filed
pub none_filed : (b : CoreState) (m : ℕ) (found : Option (Bor ReportState))
    → IfNone found ((r : ReportState) → ¬ HasReportOfAll b m r) → is_some found ≡ false
    → (r : ReportState) → ¬ IsReportOf b (all_of m) r
none_filed b m (Some r) none is = absurd cc
none_filed b m None none is = none
