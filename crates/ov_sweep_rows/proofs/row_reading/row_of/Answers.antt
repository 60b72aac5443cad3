use Rattle.std.proofs.Common.{◌≡◌, ◌∙◌, ℕ, List, take, drop, map, subst, sym, ap}
use Rattle.csv.specs.Records.{fields_of}
use Rattle.ov_sweep_rows.specs.Columns.{forms}
use Rattle.ov_sweep_rows.specs.declared.row_fault.FieldForm.{FieldForm}
use Rattle.ov_sweep_rows.specs.Code.Groups.{Fits}
use Rattle.ov_sweep_rows.specs.Code.Taking.{IsLackOf, IsRowFault}
use Rattle.ov_sweep_rows.specs.declared.cell.Cell.{Cell}
use Rattle.ov_sweep_rows.proofs.CellByCell.{read_length}
use Rattle.ov_sweep_rows.specs.Code.Named.{name_and_form}
use Rattle.ov_sweep_rows.proofs.Refusing.{fault_tells}
use Rattle.ov_sweep_rows.proofs.Taking.{beyond, by_header, lacking, said_row}
use Rattle.ov_sweep_rows.proofs.Took.{all_took}
use Rattle.ov_sweep_rows.proofs.row_reading.row_of.Goals as goal

pub returns-in_err-cells-clause-fault : goal.returns-in_err-cells-clause-fault
returns-in_err-cells-clause-fault c =
    let f = c.args.header.now.form in
    let fields = fields_of c.args.fields.now in
    fault_tells (λ fault. fault ≡ c.in_err-cells.field-0.0) (IsRowFault f fields) c.from_residual.result
    (λ fault same. rw same
    (lacking f fields c.in_err-cells.field-0.0
    (subst (λ (rows : List (List ℕ × FieldForm)). IsLackOf rows fields c.in_err-cells.field-0.0)
    (ap (map name_and_form) c.deref.ensures.value ∙ c.requires.columns) c.in_err-cells.ensures.fault)))
    c.from_residual.ensures.1

pub row_with-requires : goal.row_with-requires
row_with-requires c =
    let f = c.args.header.now.form in
    let fields = fields_of c.args.fields.now in
    let read = by_header f fields _ _ c.in_ok-cells.cells.items c.deref.ensures.value c.requires.columns
    c.in_ok-cells.ensures.cells in
    subst (λ (cs : List Cell). Fits cs (forms f)) (sym c.deref-2.ensures.value) (record {
      long = read_length (forms f) fields c.in_ok-cells.cells.items read;
      taken = all_took (forms f) fields c.in_ok-cells.cells.items read;
    })

pub returns-in-Some-clause-row : goal.returns-in-Some-clause-row
returns-in-Some-clause-row c =
    let f = c.args.header.now.form in
    let fields = fields_of c.args.fields.now in
    let read = by_header f fields _ _ c.in_ok-cells.cells.items c.deref.ensures.value c.requires.columns
    c.in_ok-cells.ensures.cells in
    said_row f fields c.in_ok-cells.cells.items c.in-Some.row c.requires.whole read
    (c.in-Some.ensures.cells ∙ c.deref-2.ensures.value) c.in-Some.ensures.three c.in-Some.ensures.within
    c.in-Some.ensures.no_more

pub returns-clause-fault : goal.returns-clause-fault
returns-clause-fault c =
    let f = c.args.header.now.form in
    let fields = fields_of c.args.fields.now in
    let read = by_header f fields _ _ c.in_ok-cells.cells.items c.deref.ensures.value c.requires.columns
    c.in_ok-cells.ensures.cells in
    beyond f fields c.in_ok-cells.cells.items c.params_fault.result read
    (λ p is. c.in-None.ensures.none p (is ∙ ap (λ l. take 7 (drop 1 l)) (sym c.deref-2.ensures.value)))
    c.params_fault.ensures
