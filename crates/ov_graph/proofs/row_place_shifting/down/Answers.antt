use Rattle.std.proofs.Common.{arith}
use Rattle.ov_graph.proofs.BitRows.Shifts.{down_last, down_others}
use Rattle.ov_graph.proofs.row_place_shifting.down.Goals as goal

pub returns-clause-last : goal.returns-clause-last
returns-clause-last c = let fits = c.ranges.word in down_last c.args.word c.args.after (omega (arith, fits))

pub returns-clause-others : goal.returns-clause-others
returns-clause-others c i l = down_others c.args.word c.args.after i l
