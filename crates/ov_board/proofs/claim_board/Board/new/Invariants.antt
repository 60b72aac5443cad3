use Rattle.std.proofs.Common.{◌≡◌, ℕ, ◌<◌, ◌≤◌, ◌-◌, length, slice_get, Some, [], vec_capacity}
use Rattle.ov_board.specs.Board.{new_seat}
use Rattle.ov_board.specs.Code.Rule.{fresh_from}
use Rattle.ov_board.proofs.claim_board.Board.new.Given as goal

abbrev pub invariant-loop-number : goal.invariant-loop-number
invariant-loop-number l =
    (length l.seats.items ≡ l.number)
    × (l.count ≤ vec_capacity l.seats)
    × (l.pool.table_id ≡ l.table.shared.table_id)
    × (l.pool.me ≡ (
      record {
        total = l.fn.total;
        workers = l.count;
        seated = fresh_from l.number (l.count - l.number);
      },
      [],
    ))
    × ((i : ℕ) → i < l.number → slice_get l.seats.items i
    ≡ Some (new_seat record { table = l.table.shared.table_id; total = l.fn.total; workers = l.count } i))
