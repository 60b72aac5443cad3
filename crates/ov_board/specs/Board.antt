-- The claim board: workers in threads share out the numbers below a total at two words, the next number and the lowest
-- number that failed. Each exchange at the board is one atomic step on one word. It is one of the three steps of the
-- claims, and between two exchanges the words and the seats show legal claims.
use Rattle.std.specs.Prelude.{◌≡◌, ℕ, List, length}
use Rattle.atomic_table.specs.Seated.{TableId}
use Rattle.ov_ids.specs.Members.{Has}
use Rattle.ov_board.specs.Claims.{WorkerState, DeskState, HasWorker, IsLegal, fresh}
use Rattle.ov_board.specs.Theorems.{IsDone}

-- a board: which table of words it is, how many numbers it shares out, and for how many workers
pub record BoardState : Type 0 where
  pub table : TableId
  pub total : ℕ
  pub workers : ℕ

-- a seat: of which board, the number of its worker, and what that worker has done
pub record SeatState : Type 0 where
  pub board : BoardState
  pub number : ℕ
  pub worker : WorkerState

-- the seat of worker i before its first claim
abbrev pub new_seat : BoardState → ℕ → SeatState
new_seat b i = record { board = b; number = i; worker = fresh }

-- the seat after its worker has become v
abbrev pub after : SeatState → WorkerState → SeatState
after seat v = record seat { worker = v }

-- claims that a board may show between two exchanges, by its words and its seats: they are legal, with the board's
-- total and number of workers
pub record AreClaimsOf (b : BoardState) (s : DeskState) : Type 0 where
  pub legal : IsLegal s
  pub total : s.total ≡ b.total
  pub workers : length s.workers ≡ b.workers

-- an exchange was this step of the seat's worker: the claims were s and are t, both are claims of the board, and the
-- worker was that of the seat before and is that of the seat after. That the board shows s just then, and that s comes
-- after what this worker saw before, is left to the rule of the board (`ShowsClaims`)
pub record IsExchange (Step : DeskState → DeskState → Type 0) (old new : SeatState) : Type 0 where
  pub s : DeskState
  pub t : DeskState
  pub were : AreClaimsOf old.board s
  pub are : AreClaimsOf new.board t
  pub had : HasWorker s old.number old.worker
  pub has : HasWorker t new.number new.worker
  pub step : Step s t

-- the claims of a closed board: each seat's worker is at its number, each worker is that of a seat, and the work is
-- done. `lowest` is the lowest number that failed, or the total if no number failed
pub record IsClosed (b : BoardState) (seats : List SeatState) (lowest : ℕ) : Type 0 where
  pub s : DeskState
  pub are : AreClaimsOf b s
  pub least : s.least ≡ lowest
  pub seated : (seat : SeatState) → Has seats seat → HasWorker s seat.number seat.worker
  pub each : (w : ℕ) (v : WorkerState) → HasWorker s w v
      → (seat : SeatState) × Has seats seat × (seat.number ≡ w) × (seat.worker ≡ v)
  pub done : IsDone s
