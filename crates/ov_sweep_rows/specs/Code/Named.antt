-- Columns of the code, by their names and what they take.
use denote.Ref.{Bor}
use Rattle.std.specs.Prelude.{ℕ, List}
use Rattle.ov_sweep_rows.specs.declared.columns.Column.{Column}
use Rattle.ov_sweep_rows.specs.declared.phase_column.PhaseColumn.{PhaseColumn}
use Rattle.ov_sweep_rows.specs.declared.row_fault.FieldForm.{FieldForm}
use Rattle.ov_sweep_rows.specs.Columns.{column_name}

-- the name of a column, and what it takes
abbrev pub name_and_form : Column → List ℕ × FieldForm
name_and_form column = (column_name column.name, column.takes)

-- those of an option
abbrev pub option_of : Bor (List ℕ) × FieldForm → List ℕ × FieldForm
option_of option = (option.0.now, option.1)

-- those of a group, behind the name of a phase
abbrev pub part_of_phase : PhaseColumn → List ℕ × FieldForm
part_of_phase part = (part.name.now, part.takes)
