-- What groups of columns take.
use Rattle.std.specs.Prelude.{◌≡◌, ℕ, List, map, take, drop, Some}
use Rattle.ov_sweep_rows.specs.declared.cell.Cell.{Cell}
use Rattle.ov_sweep_rows.specs.declared.row_fault.FieldForm.{FieldForm}
use Rattle.ov_sweep_rows.specs.Cells.{cell_text, cells_read}
use Rattle.ov_sweep_rows.specs.Columns.{further_columns, option_columns, phase_columns}
use Rattle.ov_sweep_rows.specs.PhaseCosts.{cost_columns}
use Rattle.ov_sweep_rows.specs.PhaseShape.{shape_columns}

-- columns of these forms read in the texts of these cells the cells again
abbrev pub AreReadBack : List FieldForm → List Cell → Type 0
AreReadBack takes cells = cells_read takes (map cell_text cells) ≡ Some cells

-- what columns take
abbrev pub forms_of : List (List ℕ × FieldForm) → List FieldForm
forms_of columns = map (λ column. column.1) columns

-- what the columns of the options of a run take, the last of which is its seed
abbrev pub option_forms : List FieldForm
option_forms = forms_of option_columns

-- without that of the seed
abbrev pub setting_forms : List FieldForm
setting_forms = take 18 option_forms

-- what the columns of HyParView's seven parameters take
abbrev pub parameter_forms : List FieldForm
parameter_forms = take 7 (drop 1 option_forms)

-- what the columns of the further options take
abbrev pub further_forms : List FieldForm
further_forms = forms_of further_columns

-- what the columns of a phase take
abbrev pub phase_forms : List FieldForm
phase_forms = forms_of phase_columns

-- what the columns of the costs of a phase take
abbrev pub cost_forms : List FieldForm
cost_forms = forms_of cost_columns

-- what the columns of the shape of a phase take
abbrev pub shape_forms : List FieldForm
shape_forms = forms_of shape_columns
