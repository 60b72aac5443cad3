-- A record is taken as a row, or is refused.
use Rattle.std.proofs.Common.{◌≡◌, ◌∙◌, ℕ, List, length, take, drop, map, Option}
use Rattle.std.proofs.Common.{Some, inl, inr, refl, sym, ap, subst}
use Rattle.std.specs.Prelude.{Err, Ok, OnOk, Result, option_map, slice_get, IsSome, is_some, unwrap_or}
use Rattle.std.proofs.lemmas.Option.{slice_get-map}
use Rattle.ov_ids.specs.ParamsState.{AreWithinLimits, ParamsState}
use Rattle.ov_sweep_rows.specs.declared.cell.Cell.{Cell}
use Rattle.ov_sweep_rows.specs.declared.row.Row.{Row}
use Rattle.ov_sweep_rows.specs.declared.row_fault.FieldForm.{FieldForm}
use Rattle.ov_sweep_rows.specs.declared.row_fault.RowFault.{RowFault}
use Rattle.ov_sweep_rows.specs.declared.row_fault.RowFault.TheVariants.{Header, FieldCount, Field, OutOfMemory}
use Rattle.ov_sweep_rows.specs.declared.row_form.RowForm.{RowForm}
use Rattle.ov_sweep_rows.specs.Cells.{cells_read, parameter_cells}
use Rattle.ov_sweep_rows.specs.RowCells.{cells}
use Rattle.ov_sweep_rows.specs.Columns.{column_name, columns, forms, table}
use Rattle.ov_sweep_rows.specs.Fields.{HasNoMore, SayRow}
use Rattle.ov_sweep_rows.specs.Code.Taking.{IsLackOf, IsLastParameter, IsRowFault, IsTakeFault}
use Rattle.ov_sweep_rows.proofs.CellByCell.{forms_by_table, lack_read, rest_read, take_read}
use Rattle.ov_sweep_rows.specs.declared.columns.Column.{Column}
use Rattle.ov_sweep_rows.specs.Code.Named.{name_and_form}
use Rattle.ov_sweep_rows.proofs.Named.{forms_of}

-- what a call adds if it is Ok
pub on_ok : {A E : Type 0} (r : Result A E) (First Second : Type 0) → (First → Second) → OnOk r First → OnOk r Second
on_ok (Ok a) First Second leads is = leads is
on_ok (Err e) First Second leads is = tt

-- a record that is no header is refused for the fault of its row
pub untaken : (f : RowForm) (fields : List (List ℕ)) (fault : RowFault) → (fields ≡ columns f → ⊥)
    → IsRowFault f fields fault → IsTakeFault f fields fault
untaken f fields (Field line field) other is = (record { unnamed = other; unsaid = is.0 }, is.1)
untaken f fields Header other is = is
untaken f fields (FieldCount line number needed) other is = is
untaken f fields OutOfMemory other is = tt

-- a column that reads nothing
pub lacking : (f : RowForm) (fields : List (List ℕ)) (fault : RowFault) → IsLackOf (table f) fields fault
    → IsRowFault f fields fault
lacking f fields (Field line field) (at, none, first) =
    let form_there : slice_get (forms f) field.place ≡ Some field.takes =
    slice_get-map (λ row. row.1) (table f) field.place ∙ ap (option_map (λ (row : List ℕ × FieldForm). row.1)) at in
    let name_there : slice_get (columns f) field.place ≡ Some (column_name field.column) =
    slice_get-map (λ row. row.0) (table f) field.place ∙ ap (option_map (λ (row : List ℕ × FieldForm). row.0)) at in (
      λ row says. lack_read (forms f) fields field.place field.takes (cells f row) form_there none says.said,
      record { named = name_there; taken = form_there; lacks = inl none; first = first },
    )
lacking f fields Header is = is
lacking f fields (FieldCount line number needed) is = is
lacking f fields OutOfMemory is = tt

-- the parameters of a row are those that its cells have
same_parameters : (f : RowForm) (row : Row) → take 7 (drop 1 (cells f row)) ≡ parameter_cells row.options.params
same_parameters f row = refl

some_there : {A : Type 0} (o : Option A) (a : A) → o ≡ Some a → IsSome o
some_there o a is = ap is_some is

-- parameters beyond their limits
pub beyond : (f : RowForm) (fields : List (List ℕ)) (cs : List Cell) (fault : RowFault)
    → cells_read (forms f) fields ≡ Some cs
    → ((p : ParamsState) → parameter_cells p ≡ take 7 (drop 1 cs) → AreWithinLimits p → ⊥) → IsLastParameter fault
    → IsRowFault f fields fault
beyond f fields cs (Field line field) read none (place, name, takes) =
    let part = take_read 7 (drop 1 (forms f)) (drop 1 fields) (drop 1 cs) (rest_read (forms f) fields cs read) in (
      λ row says. none row.options.params
          (sym (same_parameters f row)
          ∙ ap (λ l. take 7 (drop 1 l)) (ap (λ o. unwrap_or o cs) (sym says.said ∙ read))) says.within,
      record {
        named = rw (place, name) refl;
        taken = rw (place, takes) refl;
        lacks = inr (
          takes,
          λ p said within. none p (ap (λ o. unwrap_or o (parameter_cells p))
              (sym said ∙ part)) within,
        );
        first = rw place (some_there _ _ (take_read 7 (forms f) fields cs read));
      },
    )
beyond f fields cs Header read none is = is
beyond f fields cs (FieldCount line number needed) read none is = is
beyond f fields cs OutOfMemory read none is = tt

-- what the columns of a header read
pub by_header : (f : RowForm) (fields : List (List ℕ)) (columns : List Column) (here : List Column) (cs : List Cell)
    → here ≡ columns → map name_and_form columns ≡ table f → cells_read (forms_of here) fields ≡ Some cs
    → cells_read (forms f) fields ≡ Some cs
by_header f fields columns here cs same rows read =
    subst (λ (fs : List FieldForm). cells_read fs fields ≡ Some cs)
    (ap forms_of same ∙ forms_by_table columns (table f) rows) read

-- a record that says a row
pub said_row : (f : RowForm) (fields : List (List ℕ)) (cs : List Cell) (row : Row) → length fields ≡ length (columns f)
    → cells_read (forms f) fields ≡ Some cs → cells f row ≡ cs → length row.phases ≡ 3
    → AreWithinLimits row.options.params → HasNoMore f row → SayRow f fields row
said_row f fields cs row whole read is three within no_more = record {
  whole = whole;
  said = read ∙ ap Some (sym is);
  three = three;
  within = within;
  no_more = no_more;
}
