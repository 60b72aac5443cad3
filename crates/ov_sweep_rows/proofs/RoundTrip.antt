-- What is written of rows is read as these rows.
use Rattle.std.proofs.Common.{◌≡◌, ◌∙◌, ℕ, true, List, [], ◌∷◌, ◌++◌, Some}
use Rattle.std.proofs.Common.{None, refl, ap, subst}
use Rattle.std.specs.Prelude.{drop, get_or, option_map}
use Rattle.std.specs.List.{filter}
use Rattle.csv.specs.Machine.{next_record}
use Rattle.csv.specs.Reading.{Reached, default_config, strip_bom}
use Rattle.csv.specs.Writing.{read_back}
use Rattle.csv.specs.Records.{field_at}
use Rattle.csv.specs.declared.parser.State.TheVariants as st
use Rattle.csv.proofs.RoundTrip.{read-write}
use Rattle.ov_lines.specs.Lines.{number_within}
use Rattle.ov_sweep_rows.specs.declared.row.Row.{Row}
use Rattle.ov_sweep_rows.specs.declared.row_form.RowForm.{RowForm}
use Rattle.ov_sweep_rows.specs.declared.row_fault.FieldForm.TheVariants as form
use Rattle.ov_sweep_rows.specs.Cells.{read_as}
use Rattle.ov_sweep_rows.specs.RowCells.{cells}
use Rattle.ov_sweep_rows.specs.Columns.{columns, forms}
use Rattle.ov_sweep_rows.specs.Fields.{SayRow, text_at}
use Rattle.ov_sweep_rows.specs.Reading.{AreRowsOf, SayRows, is_no_header}
use Rattle.ov_sweep_rows.specs.Refusals.{first_record}
use Rattle.ov_sweep_rows.specs.Writing.{AreLinesOf, IsWrittenOf, header_line}
use Rattle.ov_sweep_rows.proofs.CellByCell.{lack_read, too_few}
use Rattle.ov_sweep_rows.proofs.Said.{is_row_test}

-- the first name of a header is no number
name_is_none : (f : RowForm) → read_as form.Nodes (text_at (columns f) 0) ≡ None
unfolding number_within field_at
name_is_none f = refl

-- a header is no row
pub header_unsaid : (f : RowForm) (row : Row) → SayRow f (columns f) row → ⊥
header_unsaid f row says = lack_read (forms f) (columns f) 0 form.Nodes (cells f row) refl (name_is_none f) says.said

-- so a row is no header
row_kept : (f : RowForm) (fields : List (List ℕ)) (row : Row) → SayRow f fields row → is_no_header f fields ≡ true
row_kept f fields row says =
    is_row_test f fields (λ same. header_unsaid f row (subst (λ (t : List (List ℕ)). SayRow f t row) same says))

-- a row has fields
row_back : (f : RowForm) (fields : List (List ℕ)) (row : Row) → SayRow f fields row → read_back fields ≡ fields
row_back f [] row says = absurd (too_few form.Nodes _ (cells f row) says.said)
row_back f (t ∷ fields) row says = refl

-- what is read of lines
pub record LinesRead (f : RowForm) (rows : List Row) (text : List ℕ) : Type 0 where
  pub records : List (List (List ℕ))
  pub reached : Reached default_config st.StartRecord text records st.StartRecord []
  pub said : SayRows f (filter (is_no_header f) records) rows
  pub each : (front more : List (List (List ℕ))) (fields : List (List ℕ)) → records ≡ front ++ (fields ∷ more)
      → (row : Row) × SayRow f fields row

-- one line more: each record says a row
each_more : (f : RowForm) (first : List (List ℕ)) (row : Row) (rest front more : List (List (List ℕ)))
    (fields : List (List ℕ)) → SayRow f first row
    → ((front more : List (List (List ℕ))) (fields : List (List ℕ)) → rest ≡ front ++ (fields ∷ more)
    → (row : Row) × SayRow f fields row)
    → first ∷ rest ≡ front ++ (fields ∷ more) → (row : Row) × SayRow f fields row
each_more f first row rest [] more fields says each is =
    (row, subst (λ (t : List (List ℕ)). SayRow f t row) (ap (λ l. get_or l 0 first) is) says)
each_more f first row rest (r ∷ front) more fields says each is =
    each front more fields (ap (λ l. drop 1 l) is)

none_of : (front more : List (List (List ℕ))) (fields : List (List ℕ)) → [] ≡ front ++ (fields ∷ more) → ⊥
none_of [] more fields is = cc is
none_of (r ∷ front) more fields is = cc is

pub lines_read : (f : RowForm) (rows : List Row) (text : List ℕ) → AreLinesOf f rows text → LinesRead f rows text
unfolding AreLinesOf Reached SayRows
lines_read f [] text is = record {
  records = [];
  reached = (refl, is);
  said = tt;
  each = λ front more fields none. absurd (none_of front more fields none);
}
lines_read f (row ∷ rows) text (first, others, line, more, is) =
    let rest = lines_read f rows others more in
    let found : next_record default_config st.StartRecord [] [] text ≡ Some (line.fields, st.StartRecord, others) =
    rw (is, line.line) (read-write line.fields others
    ∙ ap (λ (t : List (List ℕ)). Some (t, st.StartRecord, others)) (row_back f line.fields row line.say)) in
    record {
      records = line.fields ∷ rest.records;
      reached = ((line.fields, st.StartRecord, others), found, refl, rest.reached);
      said = rw (row_kept f line.fields row line.say) (line.say, rest.said);
      each = λ front behind fields all. each_more f line.fields row rest.records front behind fields line.say rest.each
          all;
    }

-- a header begins with no byte order mark
pub unmarked : (f : RowForm) (text : List ℕ) → strip_bom (header_line f ++ text) ≡ header_line f ++ text
unfolding strip_bom
unmarked f text = refl

pub no_record_left : next_record default_config st.StartRecord [] [] [] ≡ None
unfolding next_record
no_record_left = refl

-- the first record is the header
pub header_first : (f : RowForm) (lines text : List ℕ) → text ≡ header_line f ++ lines
    → first_record text ≡ Some (columns f)
header_first f lines text is =
    ap first_record is
    ∙ ap (λ t. option_map (λ p. p.0) (next_record default_config st.StartRecord [] [] t)) (unmarked f lines)
    ∙ ap (option_map (λ p. p.0)) (read-write (columns f) lines)

-- what is written of rows is read as these rows
pub written_read : (f : RowForm) (rows : List Row) (text : List ℕ) → IsWrittenOf f rows text → AreRowsOf text rows
unfolding Reached
written_read f rows text (lines, are, is) =
    let read = lines_read f rows lines are in
    let header = read-write (columns f) lines in
    record {
      form = f;
      records = read.records;
      are_all =
          rw (is, unmarked f lines)
          (st.StartRecord, [], ((columns f, st.StartRecord, lines), header, refl, read.reached), no_record_left);
      are_said = read.said;
    }
