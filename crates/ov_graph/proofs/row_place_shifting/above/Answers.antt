use Rattle.std.proofs.Common.{arith}
use Rattle.ov_graph.proofs.BitRows.Shifts.{above_bit}
use Rattle.ov_graph.proofs.row_place_shifting.above.Goals as goal

pub returns : goal.returns
returns c i = let fits = c.ranges.word in above_bit c.args.word c.args.t i (omega (arith, fits))
