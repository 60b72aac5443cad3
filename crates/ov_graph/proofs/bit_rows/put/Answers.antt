use Rattle.std.proofs.Common.{arith}
use Rattle.ov_graph.proofs.BitRows.Bits.{put_bit}
use Rattle.ov_graph.proofs.bit_rows.put.Goals as goal

pub returns : goal.returns
returns g c =
    let r = c.told-row in
    put_bit c.args.row.now c.args.p c.with_bit.result (omega (arith, r))
    c.with_bit.ensures.set c.with_bit.ensures.others
