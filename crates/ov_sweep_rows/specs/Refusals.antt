-- Why a text of rows is refused.
use Rattle.std.specs.Prelude.{◌≡◌, ◌≢◌, ◌<◌, ◌⊎◌, ℕ, List, [], ◌∷◌, ◌++◌, length, take, drop, ⊤, Option, option_map}
use Rattle.std.specs.Prelude.{Some, None, slice_get, IsSome}
use Rattle.std.specs.List.{filter}
use Rattle.csv.specs.Machine.{next_record}
use Rattle.csv.specs.Reading.{Reached, default_config, strip_bom}
use Rattle.csv.specs.declared.parser.State.{State}
use Rattle.csv.specs.declared.parser.State.TheVariants as st
use Rattle.ov_ids.specs.ParamsState.{AreWithinLimits, ParamsState}
use Rattle.ov_sweep_rows.specs.declared.header_slips.HeaderSlip.{HeaderSlip}
use Rattle.ov_sweep_rows.specs.declared.row.Row.{Row}
use Rattle.ov_sweep_rows.specs.declared.row_form.RowForm.{RowForm}
use Rattle.ov_sweep_rows.specs.declared.row_fault.FieldFault.{FieldFault}
use Rattle.ov_sweep_rows.specs.declared.row_fault.FieldForm.{FieldForm}
use Rattle.ov_sweep_rows.specs.declared.row_fault.FieldForm.TheVariants as form
use Rattle.ov_sweep_rows.specs.declared.row_fault.RowFault.{RowFault}
use Rattle.ov_sweep_rows.specs.declared.row_fault.RowFault.TheVariants.{Header, FieldCount, Field, OutOfMemory}
use Rattle.ov_sweep_rows.specs.Cells.{cells_read, parameter_cells, read_as}
use Rattle.ov_sweep_rows.specs.Columns.{column_name, columns, form_at, forms}
use Rattle.ov_sweep_rows.specs.Fields.{SayRow, text_at}
use Rattle.ov_sweep_rows.specs.Reading.{SayRows, is_no_header}

-- the first record of a text, if it has one
abbrev pub first_record : List ℕ → Option (List (List ℕ))
first_record text = option_map (λ p. p.0) (next_record default_config st.StartRecord [] [] (strip_bom text))

-- the seven fields behind the first one say HyParView's seven parameters
abbrev pub SayParams : RowForm → List (List ℕ) → ParamsState → Type 0
SayParams rows_have fields p =
    cells_read (take 7 (drop 1 (forms rows_have))) (take 7 (drop 1 fields)) ≡ Some (parameter_cells p)

-- what stands in the column at a place is not of the form that the column takes; or it is the last of the seven
-- parameters, and they are none within their limits
abbrev pub LacksForm : RowForm → List (List ℕ) → ℕ → FieldForm → Type 0
LacksForm rows_have fields place takes =
    (read_as takes (text_at fields place) ≡ None)
    ⊎ ((takes ≡ form.Params) × ((p : ParamsState) → SayParams rows_have fields p → AreWithinLimits p → ⊥))

-- The fault of a record of these fields names a column, by its place and its name, and the form that the column takes.
-- It is the first column whose text lacks its form: the columns before it read theirs.
pub record IsFieldFault (rows_have : RowForm) (fields : List (List ℕ)) (field : FieldFault) : Type 0 where
  pub named : slice_get (columns rows_have) field.place ≡ Some (column_name field.column)
  pub taken : form_at rows_have field.place ≡ Some field.takes
  pub lacks : LacksForm rows_have fields field.place field.takes
  pub first : IsSome (cells_read (take field.place (forms rows_have)) (take field.place fields))

-- Fields part from the header of some form: before this place both have the same names, and this is the name that the
-- header has there, if it goes on.
pub record IsSlipOf (fields : List (List ℕ)) (slip : HeaderSlip) : Type 0 where
  pub rows_have : RowForm
  pub named : option_map column_name slip.column ≡ slice_get (columns rows_have) slip.place
  pub alike : (i : ℕ) → i < slip.place → text_at fields i ≡ text_at (columns rows_have) i

-- the first record of a text parts so from the header of some form
abbrev pub IsHeaderSlip : List ℕ → HeaderSlip → Type 0
IsHeaderSlip text slip =
    (fields : List (List ℕ)) × (first_record text ≡ Some fields) × IsSlipOf fields slip

-- a text begins with the header of this form and records that say rows, or are the header once more; a record of these
-- fields comes next
pub record ComesAfterRows (text : List ℕ) (rows_have : RowForm) (fields : List (List ℕ)) : Type 0 where
  pub records : List (List (List ℕ))
  pub rows : List Row
  pub state : State
  pub rest : List ℕ
  pub are_first :
      Reached default_config st.StartRecord (strip_bom text) (columns rows_have ∷ (records ++ (fields ∷ []))) state
      rest
  pub are_said : SayRows rows_have (filter (is_no_header rows_have) records) rows

-- a record is neither a row of this form nor the header once more
pub record IsNoRow (rows_have : RowForm) (fields : List (List ℕ)) : Type 0 where
  pub unnamed : fields ≢ columns rows_have
  pub unsaid : (row : Row) → SayRow rows_have fields row → ⊥

-- why a text is refused: its first record is the header of no form; or the first record behind it that is neither a row
-- nor the header once more has this number of fields, and so many are needed, one for each column; or what stands in
-- the column that the fault names lacks its form; or an allocation was refused
abbrev pub IsRowRefusal : List ℕ → RowFault → Type 0
IsRowRefusal text Header = (rows_have : RowForm) → first_record text ≢ Some (columns rows_have)
IsRowRefusal text (FieldCount line number needed) =
    (rows_have : RowForm) × (fields : List (List ℕ)) × ComesAfterRows text rows_have fields
    × (length fields ≡ number) × (needed ≡ length (columns rows_have)) × (number ≢ needed)
IsRowRefusal text (Field line field) =
    (rows_have : RowForm) × (fields : List (List ℕ)) × ComesAfterRows text rows_have fields
    × IsNoRow rows_have fields × IsFieldFault rows_have fields field
IsRowRefusal text OutOfMemory = ⊤
