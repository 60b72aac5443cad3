use Rattle.ov_snap.proofs.Running.{every_report_is_true}
use Rattle.ov_snap.proofs.true_filed_reports_theorems.every_report_is_true.Goals as goal

pub returns : goal.returns
returns c = every_report_is_true
