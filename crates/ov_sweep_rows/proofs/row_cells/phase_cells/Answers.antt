use Rattle.ov_sweep_rows.proofs.ReadBack.{read_all, read_more}
use Rattle.ov_sweep_rows.proofs.row_cells.phase_cells.Goals as goal

pub returns-clause-back : goal.returns-clause-back
returns-clause-back c =
    read_more _ _ _ _ _ _ c.number.ensures.back
    (read_more _ _ _ _ _ _ c.number-2.ensures.back
    (read_more _ _ _ _ _ _ c.number-3.ensures.back
    (read_more _ _ _ _ _ _ c.number-4.ensures.back
    (read_more _ _ _ _ _ _ c.number-5.ensures.back (read_more _ _ _ _ _ _ c.share_cell.ensures.back read_all)))))
