-- The cells of a row, one for each column.
use Rattle.std.specs.Prelude.{List, [], ◌∷◌, ◌++◌, slice_get, Option, Some, None}
use Rattle.ov_sweep_rows.specs.declared.cell.Cell.{Cell}
use Rattle.ov_sweep_rows.specs.declared.cell.Cell.TheVariants as cell
use Rattle.ov_sweep_rows.specs.declared.measured.Measured.{Measured}
use Rattle.ov_sweep_rows.specs.declared.measured.Measured.TheVariants as measured
use Rattle.ov_sweep_rows.specs.declared.row.PhaseRow.{PhaseRow}
use Rattle.ov_sweep_rows.specs.declared.row.Row.{Row}
use Rattle.ov_sweep_rows.specs.declared.row_form.RowForm.{RowForm}
use Rattle.ov_sweep_rows.specs.Cells.{further_cells, phase_cells, setting_cells, share_cell}
use Rattle.ov_sweep_rows.specs.Columns.{if_asked}
use Rattle.ov_sweep_rows.specs.PhaseCosts.{cost_cells}
use Rattle.ov_sweep_rows.specs.PhaseShape.{shape_cells}

-- the cells of a phase, if there is one
abbrev pub of_phase : (PhaseRow → List Cell) → Option PhaseRow → List Cell
of_phase cells None = []
of_phase cells (Some p) = cells p

-- the cells of each of the three phases, one phase after the other
abbrev pub of_phases : (PhaseRow → List Cell) → List PhaseRow → List Cell
of_phases cells phases =
    of_phase cells (slice_get phases 0) ++ (of_phase cells (slice_get phases 1) ++ of_phase cells (slice_get phases 2))

-- the cells of a row of this form, one for each column, in the order of the columns
abbrev pub cells : RowForm → Row → List Cell
cells rows_have row =
    setting_cells row.options
    ++ (cell.Number row.options.seed
    ∷ (of_phases phase_cells row.phases
    ++ (if_asked rows_have.further (further_cells row.options)
    ++ (if_asked rows_have.costs (of_phases (λ p. cost_cells p.costs) row.phases)
    ++ if_asked rows_have.shape (of_phases (λ p. shape_cells p.shape) row.phases)))))

-- what is told of a phase by means: its delivered share, what its broadcasts cost, its shape
abbrev pub measured_cells : Measured → PhaseRow → List Cell
measured_cells measured.Delivered p = share_cell p.delivered ∷ []
measured_cells measured.Costs p = cost_cells p.costs
measured_cells measured.Shape p = shape_cells p.shape
