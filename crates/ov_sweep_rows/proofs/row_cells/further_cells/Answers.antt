use Rattle.ov_sweep_rows.proofs.ReadBack.{read_all, read_more}
use Rattle.ov_sweep_rows.proofs.row_cells.further_cells.Goals as goal

pub returns-clause-back : goal.returns-clause-back
returns-clause-back c = λ may.
    read_more _ _ _ _ _ _ c.flag_cell.ensures.back
    (read_more _ _ _ _ _ _ (c.sender_cell.ensures.back may) (read_more _ _ _ _ _ _ c.flag_cell-2.ensures.back read_all))
