use Rattle.ov_sweep.proofs.OneRow.{one_row}
use Rattle.ov_sweep.proofs.options_determine_rows.one_row.Goals as goal

pub returns : goal.returns
returns c = one_row
