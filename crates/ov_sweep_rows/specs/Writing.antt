-- The text of rows, as they are written. Records are written as CSV by the kit's words, with its default writer.
use Rattle.std.specs.Prelude.{◌≡◌, ℕ, Bool, true, not, ◌&&◌, ◌||◌, nat_eq, List, [], ◌∷◌, ◌++◌, map, length}
use Rattle.std.specs.Prelude.{All, None, IfSome, IsSome, is_some, if◌then◌else◌}
use Rattle.std.specs.List.{list_all, list_any}
use Rattle.csv.specs.Writing.{default_writer, row_text}
use Rattle.ov_ids.specs.declared.world_scale.Scale.TheVariants.{Profile}
use Rattle.ov_grow_options.specs.Limits.{MayBeGrown}
use Rattle.ov_grow_options.specs.declared.options.GrowOptions.{GrowOptions}
use Rattle.ov_sweep_rows.specs.declared.row.PhaseRow.{PhaseRow}
use Rattle.ov_sweep_rows.specs.declared.row.Row.{Row}
use Rattle.ov_sweep_rows.specs.declared.row_fault.RowFault.{RowFault}
use Rattle.ov_sweep_rows.specs.declared.row_fault.RowFault.TheVariants.{OutOfMemory}
use Rattle.ov_sweep_rows.specs.declared.row_form.RowForm.{RowForm}
use Rattle.ov_sweep_rows.specs.Cells.{cell_text}
use Rattle.ov_sweep_rows.specs.Columns.{columns}
use Rattle.ov_sweep_rows.specs.Fields.{SayRow}
use Rattle.ov_sweep_rows.specs.RowCells.{cells}

-- the header of rows of this form: the names of their columns
abbrev pub header_line : RowForm → List ℕ
header_line rows_have = row_text default_writer (columns rows_have)

-- the fields of a row of this form: the texts of its cells
abbrev pub fields_written : RowForm → Row → List (List ℕ)
fields_written rows_have row = map cell_text (cells rows_have row)

-- the line of a row of this form
abbrev pub row_line : RowForm → Row → List ℕ
row_line rows_have row = row_text default_writer (fields_written rows_have row)

-- a row has three phases, and what rows of this form have columns for; its sender is one that may be asked for
pub record HasColumns (rows_have : RowForm) (row : Row) : Type 0 where
  pub three : length row.phases ≡ 3
  pub sent : IfSome row.options.sender MayBeGrown
  pub priced : rows_have.costs ≡ true → All (λ p. IsSome p.costs) row.phases
  pub shaped : rows_have.shape ≡ true → All (λ p. IsSome p.shape) row.phases

-- what of a phase rows of this form have columns for
abbrev pub phase_in_form : RowForm → PhaseRow → PhaseRow
phase_in_form rows_have p = record p {
  costs = if rows_have.costs then p.costs else None;
  shape = if rows_have.shape then p.shape else None;
}

-- what of options rows of this form have columns for
abbrev pub options_in_form : RowForm → GrowOptions → GrowOptions
options_in_form rows_have o = record o {
  params = record o.params { scale = Profile };
  sequential = rows_have.further && o.sequential;
  sender = if rows_have.further then o.sender else None;
  detect = rows_have.further && o.detect;
}

-- what of a row rows of this form have columns for
abbrev pub row_in_form : RowForm → Row → Row
row_in_form rows_have row = record {
  options = options_in_form rows_have row.options;
  phases = map (phase_in_form rows_have) row.phases;
}

-- a text is the line of this row, which its fields say
pub record IsLineOf (rows_have : RowForm) (row : Row) (text : List ℕ) : Type 0 where
  pub fields : List (List ℕ)
  pub say : SayRow rows_have fields row
  pub line : text ≡ row_text default_writer fields

-- the lines of these rows, one after the other
unfoldable pub AreLinesOf : RowForm → List Row → List ℕ → Type 0
AreLinesOf rows_have [] text = text ≡ []
AreLinesOf rows_have (row ∷ rows) text =
    (first : List ℕ) × (others : List ℕ) × IsLineOf rows_have row first × AreLinesOf rows_have rows others
    × (text ≡ first ++ others)

-- a text is written of these rows: a header, and the line of each
abbrev pub IsWrittenOf : RowForm → List Row → List ℕ → Type 0
IsWrittenOf rows_have rows text =
    (lines : List ℕ) × AreLinesOf rows_have rows lines × (text ≡ header_line rows_have ++ lines)

-- these are the rows of which the text is written, if it is written of any
abbrev pub IsReadBack : List ℕ → List Row → Type 0
IsReadBack text read = (rows_have : RowForm) (rows : List Row) → IsWrittenOf rows_have rows text → read ≡ rows

-- a text that is written of rows is refused for memory alone
abbrev pub IsRefusedForMemory : List ℕ → RowFault → Type 0
IsRefusedForMemory text fault =
    (rows_have : RowForm) (rows : List Row) → IsWrittenOf rows_have rows text → fault ≡ OutOfMemory

-- each phase has costs
abbrev pub has_costs : Row → Bool
has_costs row = list_all (λ p. is_some p.costs) row.phases

-- each phase has a shape
abbrev pub has_shape : Row → Bool
has_shape row = list_all (λ p. is_some p.shape) row.phases

-- one of the further options is asked for
abbrev pub asks_further : Row → Bool
asks_further row = row.options.sequential || is_some row.options.sender || row.options.detect

-- there are rows, and each is so
abbrev pub each_is : (Row → Bool) → List Row → Bool
each_is is_so rows = not (nat_eq (length rows) 0) && list_all is_so rows

-- the form with columns for costs and shapes, if that is asked for, and for the further options, if one is asked for or
-- there are columns for costs or shapes
abbrev pub form_with : Bool → Bool → Bool → RowForm
form_with costs shape further =
    record { further = further || costs || shape; costs = costs; shape = shape }

-- the form of these rows: costs and shapes have columns if each row has them
abbrev pub form_of_rows : List Row → RowForm
form_of_rows rows = form_with (each_is has_costs rows) (each_is has_shape rows) (list_any asks_further rows)
