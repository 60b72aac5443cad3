use Rattle.std.proofs.Common.{◌≡◌, ◌∙◌, Some, ap, map, sym}
use Rattle.csv.specs.Records.{fields_of}
use Rattle.std.proofs.lemmas.List.{length-map}
use Rattle.ov_sweep_rows.specs.Cells.{read_as}
use Rattle.ov_sweep_rows.specs.declared.row_fault.RowFault.TheVariants.{OutOfMemory}
use Rattle.ov_sweep_rows.specs.Code.Taking.{IsLackOf}
use Rattle.ov_sweep_rows.proofs.CellByCell.{form_found, lack_at, one_more_read}
use Rattle.ov_sweep_rows.specs.Code.Named.{name_and_form}
use Rattle.ov_sweep_rows.proofs.Named.{forms_of}
use Rattle.ov_sweep_rows.proofs.ReadBack.{read_all}
use Rattle.ov_sweep_rows.proofs.Refusing.{fault_tells}
use Rattle.ov_sweep_rows.proofs.row_reading.read_cells.Goals as goal

pub loop-place-init : goal.loop-place-init
loop-place-init c = read_all ∙ ap Some (sym c.new-cells.ensures.items)

pub returns-in_err-push-in-Some-clause-fault : goal.returns-in_err-push-in-Some-clause-fault
returns-in_err-push-in-Some-clause-fault c =
    fault_tells (λ fault. fault ≡ OutOfMemory) (IsLackOf (map name_and_form c.args.columns.now) (fields_of c.args.fields.now))
    c.from_residual.result (λ fault is. rw is tt) c.from_residual.ensures.1

pub returns-in-None-clause-fault : goal.returns-in-None-clause-fault
returns-in-None-clause-fault c =
    lack_at c.args.columns.now (fields_of c.args.fields.now) c.fault_at.result c.loop-place.place _
    c.loop-place.cells.items c.loop-place-test.true c.fault_at.ensures
    (ap (read_as _) (sym c.text_at.ensures) ∙ sym c.read.ensures ∙ c.in-None.is) c.loop-place.invariant

pub loop-place-preserved : goal.loop-place-preserved
loop-place-preserved c =
    one_more_read (forms_of c.args.columns.now) (fields_of c.args.fields.now) c.loop-place.place _
    c.loop-place.cells.items c.push.new.self.items c.in-Some.cell
    (form_found c.args.columns.now c.loop-place.place _ c.loop-place-test.true)
    (c.requires ∙ sym (length-map c.args.columns.now (λ column. column.takes))) c.loop-place.invariant
    (ap (read_as _) (sym c.text_at.ensures) ∙ sym c.read.ensures ∙ c.in-Some.is) c.in_ok-push-in-Some.ensures.items
