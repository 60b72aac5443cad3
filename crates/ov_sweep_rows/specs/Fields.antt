-- What the fields of a record say: a row.
use Rattle.std.specs.Prelude.{◌≡◌, ℕ, List, [], length, Option, Some, None, false, All}
use Rattle.csv.specs.Records.{field_at}
use Rattle.ov_ids.specs.ParamsState.{AreWithinLimits}
use Rattle.ov_ids.specs.declared.world_scale.Scale.TheVariants.{Profile}
use Rattle.ov_sweep_rows.specs.declared.row.Row.{Row}
use Rattle.ov_sweep_rows.specs.declared.row_form.RowForm.{RowForm}
use Rattle.ov_sweep_rows.specs.Columns.{columns, forms}
use Rattle.ov_sweep_rows.specs.Cells.{cells_read}
use Rattle.ov_sweep_rows.specs.RowCells.{cells}

-- the text, or none
abbrev pub or_empty : Option (List ℕ) → List ℕ
or_empty None = []
or_empty (Some text) = text

-- the text in the column at a place, counted from 0; behind the last column it is empty
abbrev pub text_at : List (List ℕ) → ℕ → List ℕ
text_at fields place = or_empty (field_at fields place)

-- A row has nothing for which rows of this form have no column. No row has one for the scale of the world, which
-- follows from the number of nodes.
pub record HasNoMore (rows_have : RowForm) (row : Row) : Type 0 where
  pub alone : rows_have.further ≡ false → row.options.sequential ≡ false
  pub chosen : rows_have.further ≡ false → row.options.sender ≡ None
  pub learned : rows_have.further ≡ false → row.options.detect ≡ false
  pub unpriced : rows_have.costs ≡ false → All (λ p. p.costs ≡ None) row.phases
  pub shapeless : rows_have.shape ≡ false → All (λ p. p.shape ≡ None) row.phases
  pub unscaled : row.options.params.scale ≡ Profile

-- The fields of a record of rows of this form say this row: there is one for each column, and what the columns read in
-- them are the cells of the row. It has three phases, and its parameters are within their limits.
pub record SayRow (rows_have : RowForm) (fields : List (List ℕ)) (row : Row) : Type 0 where
  pub whole : length fields ≡ length (columns rows_have)
  pub said : cells_read (forms rows_have) fields ≡ Some (cells rows_have row)
  pub three : length row.phases ≡ 3
  pub within : AreWithinLimits row.options.params
  pub no_more : HasNoMore rows_have row
