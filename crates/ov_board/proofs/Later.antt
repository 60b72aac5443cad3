-- What a claim says of the numbers that the seat had claimed before.
use Rattle.std.proofs.Common.{ℕ, ◌<◌, arith}
use Rattle.ov_ids.specs.Members.{Has}
use Rattle.ov_board.specs.Steps.{Claims}
use Rattle.ov_board.specs.Board.{SeatState, IsExchange}

-- each of them is below the number claimed now
pub later : (before after : SeatState) (n : ℕ) → IsExchange (λ s t. Claims s before.number n t) before after
    → (x : ℕ) → Has before.worker.claimed x → x < n
later before after n made x has =
    let low = ((made.were.legal.claimed x).0 (before.number, (before.worker, made.had, has))).0 in
    let is = made.step.number in
    omega (arith, low, is)
