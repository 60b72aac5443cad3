use Rattle.std.proofs.Common.{◌≡◌, ◌∙◌, ap, arith, Some, subst, sym}
use Rattle.ov_grow_options.specs.Limits.{most_nodes}
use Rattle.ov_sweep_rows.specs.declared.cell.Cell.{Cell}
use Rattle.ov_sweep_rows.specs.declared.cell.Cell.TheVariants as cell
use Rattle.ov_sweep_rows.specs.Cells.{cell_text, number_between, or_nothing}
use Rattle.ov_sweep_rows.proofs.ReadBack.{number_or_nothing_back}
use Rattle.ov_sweep_rows.proofs.row_cells.sender_cell.Goals as goal

pub returns-in-Some-clause-back : goal.returns-in-Some-clause-back
returns-in-Some-clause-back c = λ may.
    let within = rw c.in-Some.is at may in
    subst (λ (one : Cell). or_nothing (number_between 1 most_nodes) (cell_text one) ≡ Some one)
    (sym (c.number-in-Some.ensures.cell ∙ ap cell.Number c.number.ensures))
    (number_or_nothing_back 1 most_nodes c.in-Some.node within.0 within.1 (omega (arith, within.1)))
