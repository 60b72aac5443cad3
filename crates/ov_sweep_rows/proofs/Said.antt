-- Which rows the records of a text say.
use Rattle.std.proofs.Common.{◌≡◌, ℕ, List, [], ◌∷◌, ◌++◌, Bool, true, false, refl, ap}
use Rattle.std.specs.List.{filter}
use Rattle.std.proofs.lemmas.List.{append-nil}
use Rattle.std.proofs.lemmas.List.Elements.{filter-append}
use Rattle.std.specs.Cmp.Lexicographic.{bytes_decides, pointwise, pointwise_decides}
use Rattle.std.specs.Prelude.{nat_eq, not}
use Rattle.ov_sweep_rows.specs.declared.row.Row.{Row}
use Rattle.ov_sweep_rows.specs.declared.row_form.RowForm.{RowForm}
use Rattle.ov_sweep_rows.specs.Columns.{columns}
use Rattle.ov_sweep_rows.specs.Fields.{SayRow}
use Rattle.ov_sweep_rows.specs.Reading.{SayRows, is_no_header}

-- one record and one row more
said_more : (form : RowForm) (records : List (List (List ℕ))) (rows : List Row) (fields : List (List ℕ)) (row : Row)
    → SayRows form records rows → SayRow form fields row → SayRows form (records ++ (fields ∷ [])) (rows ++ (row ∷ []))
unfolding SayRows
said_more form [] [] fields row said says = (says, tt)
said_more form [] (r ∷ rows) fields row said says = absurd said
said_more form (f ∷ records) [] fields row said says = absurd said
said_more form (f ∷ records) (r ∷ rows) fields row said says = (
  said.0,
  said_more form records rows fields row said.1
      says,
)

-- one record more, which is not the header
pub row_said : (form : RowForm) (records : List (List (List ℕ))) (rows : List Row) (fields : List (List ℕ)) (row : Row)
    → is_no_header form fields ≡ true → SayRows form (filter (is_no_header form) records) rows → SayRow form fields row
    → SayRows form (filter (is_no_header form) (records ++ (fields ∷ []))) (rows ++ (row ∷ []))
row_said form records rows fields row tested said says =
    rw (filter-append (is_no_header form) records (fields ∷ []), tested)
    (said_more form (filter (is_no_header form) records) rows fields row said says)

-- the header once more
pub header_said : (form : RowForm) (records : List (List (List ℕ))) (rows : List Row) (fields : List (List ℕ))
    → is_no_header form fields ≡ false → SayRows form (filter (is_no_header form) records) rows
    → SayRows form (filter (is_no_header form) (records ++ (fields ∷ []))) rows
header_said form records rows fields tested said =
    rw (
      filter-append (is_no_header form) records (fields ∷ []),
      tested,
      append-nil (filter (is_no_header form)
          records),
    ) said

-- whether the fields are the names of the columns
header_decided : (form : RowForm) (fields : List (List ℕ)) → (pointwise (pointwise nat_eq) fields (columns form) ≡
    true → fields ≡ columns form)
    × (fields ≡ columns form → pointwise (pointwise nat_eq) fields (columns form) ≡ true)
header_decided form fields = pointwise_decides bytes_decides fields (columns form)

decided : (b : Bool) → (b ≡ true → ⊥) → not b ≡ true
decided true none = absurd (none refl)
decided false none = refl

-- the header is known by its fields
pub is_header_test : (form : RowForm) (fields : List (List ℕ)) → fields ≡ columns form → is_no_header form fields ≡
    false
is_header_test form fields same = ap not ((header_decided form fields).1 same)

-- and so is any other record
pub is_row_test : (form : RowForm) (fields : List (List ℕ)) → (fields ≡ columns form → ⊥) → is_no_header form fields
    ≡ true
is_row_test form fields other =
    decided (pointwise (pointwise nat_eq) fields (columns form)) (λ same. other ((header_decided form fields).0 same))
