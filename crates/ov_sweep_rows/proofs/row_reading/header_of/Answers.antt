use Rattle.std.proofs.Common.{◌∙◌, ◌≢◌, ap, arith, inl, inr, refl, sym}
use Rattle.std.specs.Prelude.{get_or}
use Rattle.std.proofs.lemmas.Bool.{false≢true}
use Rattle.csv.specs.Records.{fields_of}
use Rattle.ov_sweep_rows.specs.Columns.{columns}
use Rattle.ov_sweep_rows.proofs.CellByCell.{names_by_table}
use Rattle.ov_sweep_rows.proofs.Forms.{all_forms, each_form, plain_form}
use Rattle.ov_sweep_rows.proofs.Named.{below_or_at, names_of}
use Rattle.ov_sweep_rows.proofs.row_reading.header_of.Goals as goal

pub returns-then-are_same-clause-header : goal.returns-then-are_same-clause-header
returns-then-are_same-clause-header c =
    c.if-are_same.ensures.0 refl ∙ c.in_ok-names.ensures
    ∙ ap names_of c.deref.ensures.value ∙ names_by_table _ _ c.in_ok-columns.ensures

pub returns-then-are_same-clause-names : goal.returns-then-are_same-clause-names
returns-then-are_same-clause-names c =
    c.in_ok-names.ensures ∙ ap names_of c.deref.ensures.value ∙ names_by_table _ _ c.in_ok-columns.ensures

pub loop-form-preserved : goal.loop-form-preserved
loop-form-preserved c k before is = elim (below_or_at k c.loop-form.form-index before) [
  | inl below ↦ c.loop-form.invariant k below is
  | inr same ↦
      false≢true (c.if-are_same.ensures.1
      (is
      ∙ ap (λ n. columns (get_or all_forms n plain_form)) same
      ∙ sym (names_by_table _ _ c.in_ok-columns.ensures)
      ∙ sym (ap names_of c.deref.ensures.value)
      ∙ sym c.in_ok-names.ensures))
]

pub returns-clause-fault : goal.returns-clause-fault
returns-clause-fault c form =
    each_form (λ f. fields_of c.args.fields.now ≢ columns f)
    (λ k less. c.loop-form.invariant k
    (omega (arith, less, c.loop-form-test.false, c.loop-form.auto.form-index-end))) form
