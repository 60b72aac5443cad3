-- A number below the count of the pieces is that of a piece.
use Rattle.std.proofs.Common.{ℕ, ◌<◌, subst}
use Rattle.ov_even.proofs.PieceNumbers.Numbering.{one_total}
use Rattle.ov_test_analysis.proofs.piece_numbers.piece.Goals as goal

pub group_piece_at-requires-clause-below : goal.group_piece_at-requires-clause-below
group_piece_at-requires-clause-below c = λ total many.
    let same = one_total c.args.nodes c.args.members c.group_total-count.result total
    c.group_total-count.ensures.count many in
    subst (λ (t : ℕ). c.args.number < t) same c.if-number-count.false
