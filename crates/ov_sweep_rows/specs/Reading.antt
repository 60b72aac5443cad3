-- The rows that a text says. The text is read as CSV by the kit's words, with its default configuration.
use Rattle.std.specs.Prelude.{ℕ, List, [], ◌∷◌, ⊤, Bool, not, nat_eq}
use Rattle.std.specs.List.{filter}
use Rattle.std.specs.Cmp.Lexicographic.{pointwise}
use Rattle.csv.specs.Reading.{AreRecords, default_config, strip_bom}
use Rattle.csv.specs.declared.parser.State.TheVariants as st
use Rattle.ov_sweep_rows.specs.declared.row.Row.{Row}
use Rattle.ov_sweep_rows.specs.declared.row_form.RowForm.{RowForm}
use Rattle.ov_sweep_rows.specs.Columns.{columns}
use Rattle.ov_sweep_rows.specs.Fields.{SayRow}

-- the fields of a record are not the names of the columns of this form
abbrev pub is_no_header : RowForm → List (List ℕ) → Bool
is_no_header form fields = not (pointwise (pointwise nat_eq) fields (columns form))

-- the records say these rows of this form: each says one, in order
unfoldable pub SayRows : RowForm → List (List (List ℕ)) → List Row → Type 0
SayRows form [] [] = ⊤
SayRows form [] (row ∷ rows) = ⊥
SayRows form (fields ∷ more) [] = ⊥
SayRows form (fields ∷ more) (row ∷ rows) = SayRow form fields row × SayRows form more rows

-- a text of these rows: its records are a header, and others which say rows of its form, without those that are the
-- header once more
pub record AreRowsOf (text : List ℕ) (rows : List Row) : Type 0 where
  pub form : RowForm
  pub records : List (List (List ℕ))
  pub are_all : AreRecords default_config st.StartRecord (strip_bom text) (columns form ∷ records)
  pub are_said : SayRows form (filter (is_no_header form) records) rows
