use Rattle.std.proofs.Common.{arith}
use Rattle.ov_graph.proofs.BitRows.Shifts.{up_first, up_others}
use Rattle.ov_graph.proofs.row_place_shifting.up.Goals as goal

pub returns-clause-first : goal.returns-clause-first
returns-clause-first c = up_first c.args.word c.args.before

pub returns-clause-others : goal.returns-clause-others
returns-clause-others c i l = let fits = c.ranges.before in
    up_others c.args.word c.args.before i (omega (arith, fits)) l
