use Rattle.std.proofs.Common.{◌≡◌, ◌++◌, map}
use Rattle.ov_board.proofs.Closing.{numbered}
use Rattle.ov_board.proofs.claim_board.Board.close.Given as goal

abbrev pub invariant-loop-seat : goal.invariant-loop-seat
invariant-loop-seat l =
    (l.all.table_id ≡ l.table.shared.table_id)
    × (l.all.me.0.seated ≡ map numbered l.yielded)
    × (l.yielded ++ l.seat-iterator.rest.items ≡ l.fn.seats.items)
