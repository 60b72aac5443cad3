-- A file of rows that goes to a writer: a header, and then lines.
use Rattle.std.proofs.Common.{◌≡◌, ◌∙◌, ◌++◌, ℕ, Option, List, ap, append_assoc, subst, sym}
use Rattle.std.specs.Prelude.{Result, Ok, Err, OnOk}
use Rattle.std.proofs.KnownBytes.{Appends-trans}
use Rattle.std.specs.Io.KnownBytes.{Appends}
use Rattle.ov_io.specs.Device.{AppendsPrefixOf}
use Rattle.ov_sweep_rows.specs.Writing.{form_of_rows, header_line}
use Rattle.ov_sweep_rows.specs.declared.row.Row.{Row}
use Rattle.ov_sweep_rows.specs.declared.row_form.RowForm.{RowForm}
use Rattle.ov_grow_commands.specs.WrittenRows.{row_lines, rows_file}

-- the header of the form of rows, and their lines, are their file
file_is : (rows : List Row) (form : RowForm) (header : List ℕ) → form ≡ form_of_rows rows
    → header ≡ header_line form → header ++ row_lines form rows ≡ rows_file rows
unfolding rows_file
file_is rows form header is begins =
    ap (λ text. text ++ row_lines form rows) begins
    ∙ ap (λ (f : RowForm). header_line f ++ row_lines f rows) is

-- the header went, and then all lines
pub all_went : {T E : Type 0} (rows : List Row) (form : RowForm) (header : List ℕ) (a b c : Option (List ℕ))
    (r : Result T E) → form ≡ form_of_rows rows → header ≡ header_line form → Appends a b header
    → OnOk r (Appends b c (row_lines form rows)) → OnOk r (Appends a c (rows_file rows))
all_went rows form header a b c (Ok done) is begins went goes =
    subst (λ (text : List ℕ). Appends a c text) (file_is rows form header is begins)
    (Appends-trans a b c header (row_lines form rows) went goes)
all_went rows form header a b c (Err fault) is begins went goes = tt

-- the header went, and then a prefix of the lines
pub lines_begun : (rows : List Row) (form : RowForm) (header : List ℕ) (a b c : Option (List ℕ))
    → form ≡ form_of_rows rows → header ≡ header_line form → Appends a b header
    → AppendsPrefixOf (row_lines form rows) b c → AppendsPrefixOf (rows_file rows) a c
lines_begun rows form header a b c is begins went (prefix, rest, goes, whole) = (
  header ++ prefix,
  rest,
  Appends-trans a b c header prefix went goes,
  append_assoc header prefix rest ∙ ap (λ text. header ++ text) whole ∙ file_is rows form header is begins,
)

-- a prefix of the header went
pub header_begun : (rows : List Row) (form : RowForm) (header : List ℕ) (a b : Option (List ℕ))
    → form ≡ form_of_rows rows → header ≡ header_line form → AppendsPrefixOf header a b
    → AppendsPrefixOf (rows_file rows) a b
header_begun rows form header a b is begins (prefix, rest, goes, whole) = (
  prefix,
  rest ++ row_lines form rows,
  goes,
  sym (append_assoc prefix rest (row_lines form rows)) ∙ ap (λ text. text ++ row_lines form rows) whole
      ∙ file_is rows form header is begins,
)
