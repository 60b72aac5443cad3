-- Cells are read from the fields of a record, column by column.
use Rattle.std.proofs.Common.{◌≡◌, ◌∙◌, ◌<◌, ◌≤◌, ◌+◌, ℕ, zero, suc, List, [], ◌∷◌, ◌++◌, length, take, drop}
use Rattle.std.proofs.Common.{map, Option, Some, None, refl, sym, ap, ap₂, subst, arith}
use Rattle.std.specs.Prelude.{IsSome, get_or, is_some, slice_get, option_map, unwrap_or}
use Rattle.std.proofs.lemmas.Option.{slice_get-map, slice_get-get_or}
use Rattle.csv.specs.Records.{field_at}
use Rattle.ov_ids.specs.Options.{◌>>=◌}
use Rattle.ov_sweep_rows.specs.declared.cell.Cell.{Cell}
use Rattle.ov_sweep_rows.specs.declared.row_fault.FieldForm.{FieldForm}
use Rattle.ov_sweep_rows.specs.Cells.{cells_read, read_as}
use Rattle.ov_sweep_rows.specs.Fields.{text_at}
use Rattle.ov_sweep_rows.specs.declared.row_fault.RowFault.{RowFault}
use Rattle.ov_sweep_rows.specs.declared.row_fault.RowFault.TheVariants.{Header, FieldCount, Field, OutOfMemory}
use Rattle.ov_sweep_rows.specs.Code.Taking.{IsAt, IsLackOf}
use Rattle.ov_sweep_rows.specs.declared.columns.Column.{Column}
use Rattle.ov_sweep_rows.specs.Columns.{column_name}
use Rattle.ov_sweep_rows.specs.Code.Named.{name_and_form}
use Rattle.ov_sweep_rows.proofs.Named.{forms_of, names_of}
use Rattle.ov_sweep_rows.proofs.ReadBack.{read_all, read_more}

-- what was read of a first column and of others
pub first_read : (takes : FieldForm) (more : List FieldForm) (text : List ℕ) (texts : List (List ℕ)) (cs : List Cell)
    → cells_read (takes ∷ more) (text ∷ texts) ≡ Some cs
    → (c : Cell) × (es : List Cell) × (read_as takes text ≡ Some c) × (cells_read more texts ≡ Some es)
    × (c ∷ es ≡ cs)
unfolding cells_read
first_read takes more text texts cs is = by (read_as takes text) (cells_read more texts) refl refl is where
  by : (one : Option Cell) (rest : Option (List Cell)) → read_as takes text ≡ one → cells_read more texts ≡ rest
      → (one >>= λ c. rest >>= λ others. Some (c ∷ others)) ≡ Some cs
      → (c : Cell) × (es : List Cell) × (read_as takes text ≡ Some c) × (cells_read more texts ≡ Some es)
      × (c ∷ es ≡ cs)
  by None rest a b e = cc e
  by (Some c) None a b e = cc e
  by (Some c) (Some es) a b e = (c, es, a, b, ap (λ o. unwrap_or o cs) e)

-- nothing is read of no column
pub none_read : (cs : List Cell) → cells_read [] [] ≡ Some cs → [] ≡ cs
unfolding cells_read
none_read cs is = ap (λ o. unwrap_or o cs) is

pub too_few : (takes : FieldForm) (more : List FieldForm) (cs : List Cell) → cells_read (takes ∷ more) [] ≡ Some cs → ⊥
unfolding cells_read
too_few takes more cs is = cc is

pub too_many : (text : List ℕ) (texts : List (List ℕ)) (cs : List Cell) → cells_read [] (text ∷ texts) ≡ Some cs → ⊥
unfolding cells_read
too_many text texts cs is = cc is

-- the columns of two groups
pub read_both : (takes more : List FieldForm) (texts others : List (List ℕ)) (cs ds : List Cell)
    → cells_read takes texts ≡ Some cs → cells_read more others ≡ Some ds
    → cells_read (takes ++ more) (texts ++ others) ≡ Some (cs ++ ds)
read_both [] more [] others cs ds first second = rw (sym (none_read cs first)) second
read_both [] more (t ∷ texts) others cs ds first second = absurd (too_many t texts cs first)
read_both (f ∷ takes) more [] others cs ds first second = absurd (too_few f takes cs first)
read_both (f ∷ takes) more (t ∷ texts) others cs ds first second =
    let (c, es, one, rest, all) = first_read f takes t texts cs first in
    rw (sym all) (read_more _ _ _ _ _ _ one (read_both takes more texts others es ds rest second))

-- one column more is read
one_read : (forms : List FieldForm) (texts : List (List ℕ)) (i : ℕ) (takes : FieldForm) (cs : List Cell) (c : Cell)
    → slice_get forms i ≡ Some takes → length texts ≡ length forms
    → cells_read (take i forms) (take i texts) ≡ Some cs → read_as takes (text_at texts i) ≡ Some c
    → cells_read (take (suc i) forms) (take (suc i) texts) ≡ Some (cs ++ (c ∷ []))
unfolding field_at
one_read [] texts i takes cs c at long before reads = cc at
one_read (f ∷ forms) [] i takes cs c at long before reads = absurd (omega (arith, long))
one_read (f ∷ forms) (t ∷ texts) zero takes cs c at long before reads =
    let same : takes ≡ f = ap (λ o. unwrap_or o f) (sym at) in
    let here : read_as f t ≡ Some c = subst (λ (g : FieldForm). read_as g t ≡ Some c) same reads in
    subst (λ (es : List Cell). cells_read (f ∷ []) (t ∷ []) ≡ Some (es ++ (c ∷ []))) (none_read cs before)
    (read_more _ _ _ _ _ _ here read_all)
one_read (f ∷ forms) (t ∷ texts) (suc i) takes cs c at long before reads =
    let (b, es, first, rest, is) = first_read f (take i forms) t (take i texts) cs before in
    subst (λ (ds : List Cell). cells_read (f ∷ take (suc i) forms) (t ∷ take (suc i) texts) ≡ Some (ds ++ (c ∷ []))) is
    (read_more _ _ _ _ _ _ first (one_read forms texts i takes es c at (omega (arith, long)) rest reads))

pub one_more_read : (forms : List FieldForm) (texts : List (List ℕ)) (i : ℕ) (takes : FieldForm) (cs ds : List Cell)
    (c : Cell) → slice_get forms i ≡ Some takes → length texts ≡ length forms
    → cells_read (take i forms) (take i texts) ≡ Some cs → read_as takes (text_at texts i) ≡ Some c
    → ds ≡ cs ++ (c ∷ []) → cells_read (take (i + 1) forms) (take (i + 1) texts) ≡ Some ds
one_more_read forms texts i takes cs ds c at long before reads all =
    let e : suc i ≡ i + 1 = omega arith in
    subst (λ (n : ℕ). cells_read (take n forms) (take n texts) ≡ Some ds) e
    (one_read forms texts i takes cs c at long before reads ∙ ap Some (sym all))

-- where a column reads nothing, no cells are read
pub lack_read : (forms : List FieldForm) (texts : List (List ℕ)) (i : ℕ) (takes : FieldForm) (cs : List Cell)
    → slice_get forms i ≡ Some takes → read_as takes (text_at texts i) ≡ None → cells_read forms texts ≡ Some cs → ⊥
unfolding field_at
lack_read [] texts i takes cs at lacks is = cc at
lack_read (f ∷ forms) [] i takes cs at lacks is = too_few f forms cs is
lack_read (f ∷ forms) (t ∷ texts) zero takes cs at lacks is =
    let same : f ≡ takes = ap (λ o. unwrap_or o f) at in
    let (b, es, first, rest, all) = first_read f forms t texts cs is in
    cc (sym first ∙ ap (λ g. read_as g t) same ∙ lacks)
lack_read (f ∷ forms) (t ∷ texts) (suc i) takes cs at lacks is =
    let (b, es, first, rest, all) = first_read f forms t texts cs is in
    lack_read forms texts i takes es at lacks rest

-- as many cells are read as there are columns
pub read_length : (forms : List FieldForm) (texts : List (List ℕ)) (cs : List Cell) → cells_read forms texts ≡ Some cs
    → length cs ≡ length forms
read_length [] [] cs is = ap length (sym (none_read cs is))
read_length [] (t ∷ texts) cs is = absurd (too_many t texts cs is)
read_length (f ∷ forms) [] cs is = absurd (too_few f forms cs is)
read_length (f ∷ forms) (t ∷ texts) cs is =
    let (b, es, first, rest, all) = first_read f forms t texts cs is in
    rw (sym all) (ap suc (read_length forms texts es rest))

-- what is read of the first columns
pub take_read : (n : ℕ) (forms : List FieldForm) (texts : List (List ℕ)) (cs : List Cell)
    → cells_read forms texts ≡ Some cs → cells_read (take n forms) (take n texts) ≡ Some (take n cs)
take_read zero forms texts cs is = read_all
take_read (suc n) [] [] cs is = rw (sym (none_read cs is)) read_all
take_read (suc n) [] (t ∷ texts) cs is = absurd (too_many t texts cs is)
take_read (suc n) (f ∷ forms) [] cs is = absurd (too_few f forms cs is)
take_read (suc n) (f ∷ forms) (t ∷ texts) cs is =
    let (b, es, first, rest, all) = first_read f forms t texts cs is in
    rw (sym all) (read_more _ _ _ _ _ _ first (take_read n forms texts es rest))

-- what is read behind the first column
pub rest_read : (forms : List FieldForm) (texts : List (List ℕ)) (cs : List Cell)
    → cells_read forms texts ≡ Some cs → cells_read (drop 1 forms) (drop 1 texts) ≡ Some (drop 1 cs)
rest_read [] [] cs is = rw (sym (none_read cs is)) read_all
rest_read [] (t ∷ texts) cs is = absurd (too_many t texts cs is)
rest_read (f ∷ forms) [] cs is = absurd (too_few f forms cs is)
rest_read (f ∷ forms) (t ∷ texts) cs is =
    let (b, es, first, rest, all) = first_read f forms t texts cs is in
    rw (sym all) rest

-- the form of a column at a place
pub form_found : (columns : List Column) (i : ℕ) (other : Column) → i < length columns
    → slice_get (forms_of columns) i ≡ Some (get_or columns i other).takes
form_found columns i other less =
    slice_get-map (λ column. column.takes) columns i
    ∙ ap (option_map (λ (column : Column). column.takes)) (slice_get-get_or columns i other less)

-- the column at a place, by its name and its form
pub column_found : (columns : List Column) (i : ℕ) (other : Column) → i < length columns
    → slice_get (map name_and_form columns) i ≡ Some (name_and_form (get_or columns i other))
column_found columns i other less =
    slice_get-map name_and_form columns i ∙ ap (option_map name_and_form) (slice_get-get_or columns i other less)

-- the forms of columns, by their table
pub forms_by_table : (columns : List Column) (rows : List (List ℕ × FieldForm)) → map name_and_form columns ≡ rows
    → forms_of columns ≡ map (λ (row : List ℕ × FieldForm). row.1) rows
forms_by_table columns rows is = again columns ∙ ap (map (λ (row : List ℕ × FieldForm). row.1)) is where
  again : (columns : List Column) → forms_of columns ≡ map (λ (row : List ℕ × FieldForm). row.1) (map name_and_form columns)
  again [] = refl
  again (c ∷ columns) = ap (λ (fs : List FieldForm). c.takes ∷ fs) (again columns)

-- the names of columns, by their table
pub names_by_table : (columns : List Column) (rows : List (List ℕ × FieldForm)) → map name_and_form columns ≡ rows
    → names_of columns ≡ map (λ (row : List ℕ × FieldForm). row.0) rows
names_by_table columns rows is = again columns ∙ ap (map (λ (row : List ℕ × FieldForm). row.0)) is where
  again : (columns : List Column) → names_of columns ≡ map (λ (row : List ℕ × FieldForm). row.0) (map name_and_form columns)
  again [] = refl
  again (c ∷ columns) = ap (λ (ns : List (List ℕ)). column_name c.name ∷ ns) (again columns)

-- all columns
pub take_past : (n : ℕ) (columns : List Column) → length columns ≤ n → take n columns ≡ columns
take_past zero [] less = refl
take_past zero (c ∷ columns) less = absurd (omega (arith, less))
take_past (suc n) [] less = refl
take_past (suc n) (c ∷ columns) less =
    ap (λ (l : List Column). c ∷ l) (take_past n columns (omega (arith, less)))

-- the column whose text is not read
pub lack_at : (columns : List Column) (fields : List (List ℕ)) (fault : RowFault) (place : ℕ) (other : Column)
    (cs : List Cell) → place < length columns → IsAt place (name_and_form (get_or columns place other)) fault
    → read_as (get_or columns place other).takes (text_at fields place) ≡ None
    → cells_read (take place (forms_of columns)) (take place fields) ≡ Some cs
    → IsLackOf (map name_and_form columns) fields fault
lack_at columns fields (Field line field) place other cs less (here, name, takes) none before =
    let column = get_or columns place other in
    let stands = column_found columns place other less in
    let forms = forms_by_table columns (map name_and_form columns) refl in
    let same : (column_name column.name, column.takes) ≡ (column_name field.column, field.takes) =
    ap₂ (λ (n : List ℕ) (f : FieldForm). (n, f)) (sym name) (sym takes) in (
      ap (λ n. slice_get (map name_and_form columns) n) here ∙ stands ∙ ap Some same,
      ap₂ (λ (f : FieldForm) (n : ℕ). read_as f (text_at fields n)) takes here ∙ none,
      subst (λ (n : ℕ). IsSome (cells_read (take n (map (λ (row : List ℕ × FieldForm). row.1) (map name_and_form columns)))
          (take n fields))) (sym here)
          (subst (λ (fs : List FieldForm). IsSome (cells_read (take place fs) (take place fields))) forms
          (ap is_some before)),
    )
lack_at columns fields Header place other cs less at none before = at
lack_at columns fields (FieldCount line number needed) place other cs less at none before = at
lack_at columns fields OutOfMemory place other cs less at none before = tt
