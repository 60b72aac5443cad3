-- The group `shape` of a phase's columns: the shape of the links of its snapshot.
use Rattle.std.specs.Prelude.{ℕ, List, [], ◌∷◌, codes, Option, Some, None}
use Rattle.ov_sweep_rows.specs.declared.cell.Cell.{Cell}
use Rattle.ov_sweep_rows.specs.declared.cell.Cell.TheVariants as cell
use Rattle.ov_sweep_rows.specs.declared.phase_shape.PhaseShape.{PhaseShape}
use Rattle.ov_sweep_rows.specs.declared.row_fault.FieldForm.{FieldForm}
use Rattle.ov_sweep_rows.specs.declared.row_fault.FieldForm.TheVariants as form
use Rattle.ov_sweep_rows.specs.Cells.{decimals_cell}

-- their names behind that of the phase, and what they take
abbrev pub shape_columns : List (List ℕ × FieldForm)
shape_columns =
    (codes "largest", form.Number) ∷ (codes "clustering", form.Decimals) ∷ (codes "path", form.DecimalsOrNothing)
    ∷ (codes "diameter", form.Number) ∷ (codes "degree_25", form.Number) ∷ (codes "degree_50", form.Number)
    ∷ (codes "degree_75", form.Number) ∷ (codes "articulations", form.Number) ∷ []

-- what stands in them; nothing if the shape is not known
abbrev pub shape_cells : Option PhaseShape → List Cell
shape_cells None =
    cell.Empty ∷ cell.Empty ∷ cell.Empty ∷ cell.Empty ∷ cell.Empty ∷ cell.Empty ∷ cell.Empty ∷ cell.Empty ∷ []
shape_cells (Some s) =
    cell.Number s.largest ∷ cell.Decimals s.clustering ∷ decimals_cell s.path ∷ cell.Number s.diameter
    ∷ cell.Number s.degree_25 ∷ cell.Number s.degree_50 ∷ cell.Number s.degree_75
    ∷ cell.Number s.articulations ∷ []
