use Rattle.std.proofs.Common.{arith}
use Rattle.ov_sweep_rows.specs.Cells.{most_long}
use Rattle.ov_sweep_rows.proofs.ReadBack.{number_back}
use Rattle.ov_sweep_rows.proofs.row_cells.seed_cell.Goals as goal

pub returns-clause-back : goal.returns-clause-back
returns-clause-back c = number_back 0 most_long c.args.seed (omega arith) (omega arith) (omega arith)
