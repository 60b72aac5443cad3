use Rattle.ov_sweep_rows.proofs.Gathering.{anyway}
use Rattle.ov_sweep_rows.proofs.ReadBack.{read_all, read_more}
use Rattle.ov_sweep_rows.proofs.phase_shape.shape_cells.Goals as goal

pub returns-in-Some-clause-back : goal.returns-in-Some-clause-back
returns-in-Some-clause-back c =
    anyway c.args.shape _
    (read_more _ _ _ _ _ _ c.number.ensures.back
    (read_more _ _ _ _ _ _ c.decimals.ensures.back
    (read_more _ _ _ _ _ _ c.decimals_cell.ensures.back
    (read_more _ _ _ _ _ _ c.number-in-Some.ensures.back
    (read_more _ _ _ _ _ _ c.number-in-Some-2.ensures.back
    (read_more _ _ _ _ _ _ c.number-in-Some-3.ensures.back
    (read_more _ _ _ _ _ _ c.number-in-Some-4.ensures.back
    (read_more _ _ _ _ _ _ c.number-in-Some-5.ensures.back read_all))))))))
