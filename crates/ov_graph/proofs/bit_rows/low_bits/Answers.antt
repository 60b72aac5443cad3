use Rattle.ov_graph.proofs.BitRows.Shifts.{below_bit}
use Rattle.ov_graph.proofs.bit_rows.low_bits.Goals as goal

pub returns : goal.returns
returns c i = below_bit c.args.word c.args.t i c.requires
