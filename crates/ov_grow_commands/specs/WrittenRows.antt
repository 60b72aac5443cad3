-- The rows that `overlay sweep` writes.
use Rattle.std.specs.Prelude.{ℕ, List, ◌++◌}
use Rattle.std.specs.List.{flat_map}
use Rattle.ov_sweep_rows.specs.Writing.{form_of_rows, header_line, row_line}
use Rattle.ov_sweep_rows.specs.declared.row.Row.{Row}
use Rattle.ov_sweep_rows.specs.declared.row_form.RowForm.{RowForm}

-- the lines of rows of this form, one after the other
abbrev pub row_lines : RowForm → List Row → List ℕ
row_lines rows_have rows = flat_map (row_line rows_have) rows

-- a file of rows: the header of their form, and then their lines
unfoldable pub rows_file : List Row → List ℕ
rows_file rows = header_line (form_of_rows rows) ++ row_lines (form_of_rows rows) rows
