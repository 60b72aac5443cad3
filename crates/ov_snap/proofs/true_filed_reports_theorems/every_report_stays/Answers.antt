use Rattle.ov_snap.proofs.Running.{every_report_stays}
use Rattle.ov_snap.proofs.true_filed_reports_theorems.every_report_stays.Goals as goal

pub returns : goal.returns
returns c = every_report_stays
