use Rattle.std.proofs.Common.{◌∙◌, arith, refl, sym}
use Rattle.csv.specs.Records.{fields_of}
use Rattle.ov_sweep_rows.proofs.Named.{same_fields}
use Rattle.ov_sweep_rows.proofs.row_reading.are_same.Goals as goal

pub returns : goal.returns
returns c = (
  λ is. same_fields (fields_of c.args.one.now) (fields_of c.args.other.now)
      (sym c.len.ensures ∙ c.if-len.false ∙ c.len-2.ensures)
      (λ i less. c.loop-place.invariant i
      (omega (arith, less, c.loop-place-test.false, c.loop-place.auto.place-end, c.len-place-end.ensures))),
  λ same. refl,
)
