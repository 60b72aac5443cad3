use Rattle.std.proofs.Common.{subst}
use Rattle.ov_even.specs.Order.{AreSoMany}
use Rattle.ov_even.proofs.PieceNumbers.Numbering.{so_many}
use Rattle.ov_even.proofs.PieceNumbers.Totals.{reckoned, in_figures, total_small}
use Rattle.ov_even.proofs.piece_numbers.group_total.Goals as goal

pub returns-clause-count : goal.returns-clause-count
returns-clause-count c =
    let n = c.args.nodes in
    let m = c.args.members in
    subst (AreSoMany n m) (reckoned n m c.pair_count-pairs.result c.requires.members c.pair_count-pairs.ensures.count)
    (so_many n m)

pub returns-clause-figures : goal.returns-clause-figures
returns-clause-figures c =
    let n = c.args.nodes in
    let m = c.args.members in
    rw (← reckoned n m c.pair_count-pairs.result c.requires.members c.pair_count-pairs.ensures.count)
    (in_figures n m c.requires.members)

pub returns-clause-small : goal.returns-clause-small
returns-clause-small c =
    let n = c.args.nodes in
    let m = c.args.members in
    rw (← reckoned n m c.pair_count-pairs.result c.requires.members c.pair_count-pairs.ensures.count)
    (total_small n m c.requires.nodes c.requires.members)
