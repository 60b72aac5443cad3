-- How rows are taken from records.
use Rattle.std.specs.Prelude.{◌≡◌, ◌≢◌, ◌≤◌, ◌⊎◌, ℕ, suc, List, [], ◌∷◌, ◌++◌, ⊤}
use Rattle.std.specs.Prelude.{Some, None, IsSome, codes, map, slice_get, take}
use Rattle.csv.specs.declared.error.ErrorKind.{ErrorKind}
use Rattle.csv.specs.declared.error.ErrorKind.TheVariants as kind
use Rattle.ov_grow_options.specs.Limits.{most_nodes, most_of_hundred, most_rounds, most_share, most_turns}
use Rattle.ov_sweep_rows.specs.declared.cell.Cell.{Cell}
use Rattle.ov_sweep_rows.specs.declared.cell.Cell.TheVariants as cell
use Rattle.ov_sweep_rows.specs.declared.row.Row.{Row}
use Rattle.ov_sweep_rows.specs.declared.row_fault.FieldForm.{FieldForm}
use Rattle.ov_sweep_rows.specs.declared.row_fault.FieldForm.TheVariants as form
use Rattle.ov_sweep_rows.specs.declared.row_form.RowForm.{RowForm}
use Rattle.ov_sweep_rows.specs.declared.row_fault.RowFault.{RowFault}
use Rattle.ov_sweep_rows.specs.declared.row_fault.RowFault.TheVariants.{Header, FieldCount, Field, OutOfMemory}
use Rattle.ov_sweep_rows.specs.Cells.{cell_at, cells_read, most_long, most_short, read_as}
use Rattle.ov_sweep_rows.specs.Columns.{column_name, columns}
use Rattle.ov_sweep_rows.specs.Fields.{SayRow, text_at}
use Rattle.ov_sweep_rows.specs.Refusals.{IsFieldFault, IsNoRow}

-- why a record is no header: it is that of no form; or an allocation was refused
abbrev pub IsNoHeader : List (List ℕ) → RowFault → Type 0
IsNoHeader fields Header = (rows_have : RowForm) → fields ≢ columns rows_have
IsNoHeader fields (FieldCount line number needed) = ⊥
IsNoHeader fields (Field line field) = ⊥
IsNoHeader fields OutOfMemory = ⊤

-- a record was taken: the header of this form adds no row, and any other record adds the one that it says
abbrev pub WasTaken : RowForm → List (List ℕ) → List Row → List Row → Type 0
WasTaken rows_have fields old new =
    ((fields ≡ columns rows_have) × (new ≡ old))
    ⊎ ((fields ≢ columns rows_have) × (row : Row) × SayRow rows_have fields row × (new ≡ old ++ (row ∷ [])))

-- why a record says no row: the fault names the first column whose text lacks its form; or an allocation was refused
abbrev pub IsRowFault : RowForm → List (List ℕ) → RowFault → Type 0
IsRowFault rows_have fields (Field line field) =
    ((row : Row) → SayRow rows_have fields row → ⊥) × IsFieldFault rows_have fields field
IsRowFault rows_have fields Header = ⊥
IsRowFault rows_have fields (FieldCount line number needed) = ⊥
IsRowFault rows_have fields OutOfMemory = ⊤

-- why a record was not taken
abbrev pub IsTakeFault : RowForm → List (List ℕ) → RowFault → Type 0
IsTakeFault rows_have fields (Field line field) = IsNoRow rows_have fields × IsFieldFault rows_have fields field
IsTakeFault rows_have fields Header = ⊥
IsTakeFault rows_have fields (FieldCount line number needed) = ⊥
IsTakeFault rows_have fields OutOfMemory = ⊤

-- the fault that an error of the reader becomes
abbrev pub IsFaultOf : ErrorKind → RowFault → Type 0
IsFaultOf (kind.UnequalLengths pos expected len) fault = (line : ℕ) × (fault ≡ FieldCount line len expected)
IsFaultOf (kind.Io e) fault = fault ≡ OutOfMemory
IsFaultOf (kind.Utf8 pos err) fault = fault ≡ OutOfMemory
IsFaultOf kind.OutOfMemory fault = fault ≡ OutOfMemory
IsFaultOf (kind.Serialize text) fault = fault ≡ OutOfMemory
IsFaultOf (kind.Deserialize pos err) fault = fault ≡ OutOfMemory

-- a cell has a number within these limits
abbrev pub IsBetween : ℕ → ℕ → Cell → Type 0
IsBetween least most (cell.Number n) = (least ≤ n) × (n ≤ most)
IsBetween least most other = ⊥

-- a cell has such a number, or nothing
abbrev pub IsBetweenOrNothing : ℕ → ℕ → Cell → Type 0
IsBetweenOrNothing least most cell.Empty = ⊤
IsBetweenOrNothing least most other = IsBetween least most other

-- a cell has a number with four decimal digits
abbrev pub IsDecimals : Cell → Type 0
IsDecimals (cell.Decimals number) = ⊤
IsDecimals other = ⊥

-- a cell has such a number, or nothing
abbrev pub IsDecimalsOrNothing : Cell → Type 0
IsDecimalsOrNothing cell.Empty = ⊤
IsDecimalsOrNothing other = IsDecimals other

-- a cell has a rule at DISCONNECT
abbrev pub IsRefill : Cell → Type 0
IsRefill (cell.Refill rule) = ⊤
IsRefill other = ⊥

-- a cell says whose turn is next
abbrev pub IsOrder : Cell → Type 0
IsOrder (cell.Order order) = ⊤
IsOrder other = ⊥

-- a cell says which nodes crash
abbrev pub IsCrash : Cell → Type 0
IsCrash cell.Cut = ⊤
IsCrash other = IsBetween 0 most_share other

-- a cell may be read in a column that takes this form
abbrev pub Takes : FieldForm → Cell → Type 0
Takes form.Nodes c = IsBetween 1 most_nodes c
Takes form.Params c = IsBetween 0 most_short c
Takes form.Refill c = IsRefill c
Takes form.Chance c = IsBetween 0 most_of_hundred c
Takes form.Share c = IsBetween 0 most_share c
Takes form.Order c = IsOrder c
Takes form.Pace c = IsBetweenOrNothing 0 most_turns c
Takes form.Count c = IsBetween 0 most_rounds c
Takes form.Crash c = IsCrash c
Takes form.Seed c = IsBetween 0 most_long c
Takes form.Number c = IsBetween 0 most_short c
Takes form.Decimals c = IsDecimals c
Takes form.DecimalsOrNothing c = IsDecimalsOrNothing c
Takes form.Flag c = IsBetween 0 1 c
Takes form.Sender c = IsBetweenOrNothing 1 most_nodes c

-- columns of these forms may read the cells; the first of these forms is the one at this place of them
abbrev pub TakeFrom : List Cell → ℕ → List FieldForm → Type 0
TakeFrom cells k [] = ⊤
TakeFrom cells k (takes ∷ more) = Takes takes (cell_at cells k) × TakeFrom cells (suc k) more

-- the cells are these, from the one at this place on
abbrev pub EqualFrom : List Cell → ℕ → List Cell → Type 0
EqualFrom cells k [] = ⊤
EqualFrom cells k (one ∷ more) = (one ≡ cell_at cells k) × EqualFrom cells (suc k) more

-- the fault of a record of these fields names the first of these columns whose text it does not read, or an allocation
-- was refused
abbrev pub IsLackOf : List (List ℕ × FieldForm) → List (List ℕ) → RowFault → Type 0
IsLackOf columns fields (Field line field) =
    (slice_get columns field.place ≡ Some (column_name field.column, field.takes))
    × (read_as field.takes (text_at fields field.place) ≡ None)
    × IsSome (cells_read (take field.place (map (λ column. column.1) columns)) (take field.place fields))
IsLackOf columns fields Header = ⊥
IsLackOf columns fields (FieldCount line number needed) = ⊥
IsLackOf columns fields OutOfMemory = ⊤

-- a fault names a column at a place, with what it takes
abbrev pub IsAt : ℕ → List ℕ × FieldForm → RowFault → Type 0
IsAt place column (Field line field) =
    (field.place ≡ place) × (column_name field.column ≡ column.0) × (field.takes ≡ column.1)
IsAt place column Header = ⊥
IsAt place column (FieldCount line number needed) = ⊥
IsAt place column OutOfMemory = ⊥

-- a fault names the last of the seven parameters
abbrev pub IsLastParameter : RowFault → Type 0
IsLastParameter fault = IsAt 7 (codes "ttl", form.Params) fault
