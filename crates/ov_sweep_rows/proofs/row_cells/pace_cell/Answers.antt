use Rattle.std.proofs.Common.{◌≡◌, arith, Some, subst, sym}
use Rattle.ov_grow_options.specs.Limits.{most_turns}
use Rattle.ov_sweep_rows.specs.declared.cell.Cell.{Cell}
use Rattle.ov_sweep_rows.specs.Cells.{cell_text, number_between, or_nothing}
use Rattle.ov_sweep_rows.proofs.ReadBack.{number_or_nothing_back}
use Rattle.ov_sweep_rows.proofs.row_cells.pace_cell.Goals as goal

pub returns-in-Some-clause-back : goal.returns-in-Some-clause-back
returns-in-Some-clause-back c =
    let limit = c.get.ensures.most in
    subst (λ (one : Cell). or_nothing (number_between 0 most_turns) (cell_text one) ≡ Some one)
    (sym c.number.ensures.cell)
    (number_or_nothing_back 0 most_turns c.get.result (omega arith) limit (omega (arith, limit)))
