-- Rows are read from a text, record by record.
use Rattle.std.proofs.Common.{Bor, ◌≡◌, ℕ, List, [], ◌∷◌, ◌++◌, length, Some, None, Ok, inl, inr, ap, sym, ◌∙◌}
use Rattle.std.specs.Prelude.{unwrap_or}
use Rattle.std.specs.List.{filter}
use Rattle.csv.specs.Reading.{RowStep, is_flexible}
use Rattle.csv.specs.Records.{Row as Fields, fields_of}
use Rattle.csv.specs.declared.reader.Reader.{Reader}
use Rattle.ov_sweep_rows.specs.declared.row.Row.{Row}
use Rattle.ov_sweep_rows.specs.declared.row_form.RowForm.{RowForm}
use Rattle.ov_sweep_rows.specs.Columns.{columns}
use Rattle.ov_sweep_rows.specs.Fields.{SayRow}
use Rattle.ov_sweep_rows.specs.Reading.{AreRowsOf, SayRows, is_no_header}
use Rattle.ov_sweep_rows.specs.Code.Taking.{WasTaken}
use Rattle.ov_sweep_rows.specs.Code.Standing.{Stands, text_left}
use Rattle.ov_sweep_rows.proofs.Records.{fields_next, stands_last, stands_more}
use Rattle.ov_sweep_rows.proofs.Said.{header_said, is_header_test, is_row_test, row_said}

-- a reader has given the header and records behind it, which say these rows, and goes on
pub record Reads (form : RowForm) (text : List ℕ) (reader : Reader (Bor (List ℕ))) (left : ℕ) (rows : List Row) :
    Type 0 where
  pub records : List (List (List ℕ))
  pub stands : Stands text reader left (columns form ∷ records)
  pub lengths : reader.expected ≡ Some (length (columns form))
  pub said : SayRows form (filter (is_no_header form) records) rows

-- the header comes first
pub reads_begun : (form : RowForm) (text : List ℕ) (a b : Reader (Bor (List ℕ))) (left next : ℕ) (row : Fields)
    → Stands text a left [] → RowStep text_left a b next (Some (Ok row)) → is_flexible b ≡ is_flexible a
    → fields_of row ≡ columns form → Reads form text b next []
unfolding SayRows
reads_begun form text a b left next row stands step flexible same = record {
  records = [];
  stands = rw same at (stands_more text a b left next [] row stands step flexible);
  lengths = rw same at (fields_next text a b left next [] row stands step).1;
  said = tt;
}

-- the header once more
reads_header : (form : RowForm) (text : List ℕ) (a b : Reader (Bor (List ℕ))) (left next : ℕ) (rows : List Row) (row
    : Fields)
    → Reads form text a left rows → RowStep text_left a b next (Some (Ok row)) → is_flexible b ≡ is_flexible a
    → fields_of row ≡ columns form → Reads form text b next rows
reads_header form text a b left next rows row reads step flexible same = record {
  records = reads.records ++ (fields_of row ∷ []);
  stands = stands_more text a b left next (columns form ∷ reads.records) row reads.stands step flexible;
  lengths =
      rw reads.lengths at (fields_next text a b left next (columns form ∷ reads.records) row reads.stands step).0;
  said = header_said form reads.records rows (fields_of row) (is_header_test form (fields_of row) same) reads.said;
}

-- a record has a field for each column
pub reads_whole : (form : RowForm) (text : List ℕ) (a b : Reader (Bor (List ℕ))) (left next : ℕ) (rows : List Row) (row
    : Fields)
    → Reads form text a left rows → RowStep text_left a b next (Some (Ok row))
    → length (fields_of row) ≡ length (columns form)
reads_whole form text a b left next rows row reads step =
    let both = fields_next text a b left next (columns form ∷ reads.records) row reads.stands step in
    let first = rw reads.lengths at both.0 in
    ap (λ o. unwrap_or o 0) (sym both.1 ∙ first)

-- a row more
reads_row : (form : RowForm) (text : List ℕ) (a b : Reader (Bor (List ℕ))) (left next : ℕ) (rows : List Row) (row :
    Fields)
    (is : Row) → Reads form text a left rows → RowStep text_left a b next (Some (Ok row)) → is_flexible b ≡
    is_flexible a
    → (fields_of row ≡ columns form → ⊥) → SayRow form (fields_of row) is → Reads form text b next (rows ++ (is ∷ []))
reads_row form text a b left next rows row is reads step flexible other says = record {
  records = reads.records ++ (fields_of row ∷ []);
  stands = stands_more text a b left next (columns form ∷ reads.records) row reads.stands step flexible;
  lengths =
      rw reads.lengths at (fields_next text a b left next (columns form ∷ reads.records) row reads.stands step).0;
  said = row_said form reads.records rows (fields_of row) is (is_row_test form (fields_of row) other) reads.said says;
}

-- one more record was taken
pub reads_more : (form : RowForm) (text : List ℕ) (a b : Reader (Bor (List ℕ))) (left next : ℕ) (old new : List Row)
    (row : Fields)
    → Reads form text a left old → RowStep text_left a b next (Some (Ok row)) → is_flexible b ≡ is_flexible a
    → WasTaken form (fields_of row) old new → Reads form text b next new
reads_more form text a b left next old new row reads step flexible taken = elim taken [
  | inl header ↦ rw header.1 (reads_header form text a b left next old row reads step flexible header.0)
  | inr other ↦
      rw other.3 (reads_row form text a b left next old row other.1 reads step flexible other.0 other.2)
]

-- no record more
pub reads_all : (form : RowForm) (text : List ℕ) (a b : Reader (Bor (List ℕ))) (left next : ℕ) (rows : List Row)
    → Reads form text a left rows → RowStep text_left a b next None → AreRowsOf text rows
reads_all form text a b left next rows reads step = record {
  form = form;
  records = reads.records;
  are_all = stands_last text a b left next (columns form ∷ reads.records) reads.stands step;
  are_said = reads.said;
}
