use Rattle.std.proofs.Common.{◌≡◌, Some, subst, sym}
use Rattle.ov_sweep_rows.specs.declared.cell.Cell.{Cell}
use Rattle.ov_sweep_rows.specs.Cells.{cell_text, crash_in}
use Rattle.ov_sweep_rows.proofs.ReadBack.{crash_back}
use Rattle.ov_sweep_rows.proofs.row_cells.crash_cell.Goals as goal

pub returns-in-Share-clause-back : goal.returns-in-Share-clause-back
returns-in-Share-clause-back c =
    subst (λ (one : Cell). crash_in (cell_text one) ≡ Some one) (sym c.number.ensures.cell)
    (crash_back c.get.result c.get.ensures.most)
