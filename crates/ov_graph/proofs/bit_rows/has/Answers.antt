-- The test of a bit.
use Rattle.std.proofs.Common.{◌∙◌, ◌/◌, ◌%◌, sym, slice_index, eqb-true, eq-eqb}
use Rattle.std.proofs.lemmas.Nat.Bits.{shr_and_one}
use Rattle.ov_graph.proofs.BitRows.Bits.{bit_one, one_bit}
use Rattle.ov_graph.proofs.bit_rows.has.Goals as goal

pub returns : goal.returns
returns g c =
    let row = c.args.row.now in
    let p = c.args.p in
    let e = shr_and_one (slice_index row (p / 64)) (p % 64) in
    ((λ h. one_bit row p (sym e ∙ eqb-true _ _ h)), (λ h. eq-eqb _ _ (e ∙ bit_one row p h)))
