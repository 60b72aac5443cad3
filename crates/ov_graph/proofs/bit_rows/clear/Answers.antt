use Rattle.std.proofs.Common.{arith}
use Rattle.ov_graph.proofs.BitRows.Bits.{clear_bit}
use Rattle.ov_graph.proofs.bit_rows.clear.Goals as goal

pub returns : goal.returns
returns g c =
    let r = c.told-row in
    clear_bit c.args.row.now c.args.p c.without_bit.result (omega (arith, r))
    c.without_bit.ensures.cleared c.without_bit.ensures.others
