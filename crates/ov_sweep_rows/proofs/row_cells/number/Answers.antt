use Rattle.std.proofs.Common.{arith}
use Rattle.ov_sweep_rows.specs.Cells.{most_short}
use Rattle.ov_sweep_rows.proofs.ReadBack.{number_back}
use Rattle.ov_sweep_rows.proofs.row_cells.number.Goals as goal

pub returns-clause-back : goal.returns-clause-back
returns-clause-back c = number_back 0 most_short c.from.result (omega arith) (omega arith) (omega arith)
