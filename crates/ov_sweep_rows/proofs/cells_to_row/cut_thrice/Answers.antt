use Rattle.ov_sweep_rows.proofs.Rebuilding.{cut_thrice}
use Rattle.ov_sweep_rows.proofs.cells_to_row.cut_thrice.Goals as goal

pub returns : goal.returns
returns c =
    cut_thrice c.args.asked c.args.count c.args.cells.now c.cut.result.0.now c.cut-2.result.0.now c.cut-3.result.0.now
    c.cut.result.1.now c.cut-2.result.1.now c.cut-3.result.1.now c.cut.ensures c.cut-2.ensures c.cut-3.ensures
