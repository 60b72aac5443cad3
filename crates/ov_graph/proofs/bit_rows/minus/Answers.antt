use Rattle.std.proofs.Common.{arith}
use Rattle.ov_graph.proofs.BitRows.Bits.{word_without}
use Rattle.ov_graph.proofs.bit_rows.minus.Goals as goal

pub returns : goal.returns
returns c i l = let fits = c.ranges.b in word_without c.args.a c.args.b i (omega (arith, fits)) l
