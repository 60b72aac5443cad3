use Rattle.std.proofs.Common.{arith}
use Rattle.ov_sweep_rows.proofs.ReadBack.{decimals_back, decimals_or_nothing_back}
use Rattle.ov_sweep_rows.proofs.row_cells.decimals.Goals as goal

pub returns-clause-back : goal.returns-clause-back
returns-clause-back c = decimals_back c.args.number.parts (omega arith)

pub returns-clause-present : goal.returns-clause-present
returns-clause-present c = decimals_or_nothing_back c.args.number.parts (omega arith)
