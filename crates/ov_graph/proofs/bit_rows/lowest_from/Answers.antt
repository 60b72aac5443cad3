use Rattle.std.proofs.Common.{arith}
use Rattle.ov_graph.proofs.BitRows.Bits.{lowest_bit, none_left}
use Rattle.ov_graph.proofs.bit_rows.lowest_from.Goals as goal

pub returns-then-left-eq0-clause-none : goal.returns-then-left-eq0-clause-none
returns-then-left-eq0-clause-none c i l m = none_left c.args.word c.args.start c.if-left-eq0.true i l

pub returns-clause-some : goal.returns-clause-some
returns-clause-some c =
    let fits = c.ranges.word in
    let ne = c.if-left-eq0.false in
    lowest_bit c.args.word c.args.start (omega (arith, ne)) (omega (arith, fits))
