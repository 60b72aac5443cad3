use Rattle.ov_run_meaning.proofs.Reports.ReportState.{every_printed_report_is_true}
use Rattle.ov_run_meaning.proofs.true_printed_reports_theorem.every_printed_report_is_true.Goals as goal

pub returns : goal.returns
returns c = every_printed_report_is_true
