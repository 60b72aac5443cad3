-- What is put in place of the slip so far is one of this form.
use Rattle.std.proofs.Common.{◌∙◌, ap, inl, inr, slice_get}
use Rattle.ov_sweep_rows.specs.Fields.{text_at}
use Rattle.ov_sweep_rows.proofs.CellByCell.{names_by_table}
use Rattle.ov_sweep_rows.proofs.Named.{names_of}
use Rattle.ov_sweep_rows.proofs.header_slips.slip_of.Goals as goal

pub loop-form-preserved : goal.loop-form-preserved
loop-form-preserved c = elim c.longer-slip.ensures [
  | inl same ↦ rw same c.loop-form.invariant
  | inr same ↦
      rw same (record {
        rows_have = _;
        named = c.name_at-column.ensures
            ∙ ap (λ names. slice_get names c.alike-place.result)
            (ap names_of c.deref-in-loop-form.ensures.value ∙ names_by_table _ _ c.in_ok-columns.ensures);
        alike = λ i less.
            c.alike-place.ensures i less
            ∙ ap (λ fields. text_at fields i)
            (c.in_ok-names.ensures ∙ ap names_of c.deref.ensures.value
            ∙ names_by_table _ _ c.in_ok-columns.ensures);
      })
]
