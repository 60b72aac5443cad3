-- The views of seats, and what each exchange says of its seat.
use Rattle.std.specs.Prelude.{◌≡◌, ℕ, zero, suc, ◌+◌, List, [], ◌∷◌, ◌++◌, take, drop}
use Rattle.atomic_table.specs.Seated.{TableId}
use Rattle.atomic_table.specs.Table.{Me, Step}
use Rattle.ov_board.specs.Claims.{WorkerState, DeskState, fresh}
use Rattle.ov_board.specs.Steps.{claiming, looking, failing, Claims, Looks, Fails}
use Rattle.ov_board.specs.declared.ghost_views.BoardSize.{BoardSize}
use Rattle.ov_board.specs.declared.ghost_views.SeatView.{SeatView}
use Rattle.ov_board.specs.Board.{SeatState, IsExchange}
use Rattle.ov_board.specs.Rule.{Numbered}

-- a seat of the table: its view, and the slots that it holds, of which a table of words has none
abbrev pub Holder : Type 0
Holder = Me (Unit {0}) SeatView

-- m workers before the first claim, numbered from i
abbrev pub fresh_from : ℕ → ℕ → List Numbered
fresh_from i zero = []
fresh_from i (suc m) = (i, fresh) ∷ fresh_from (i + 1) m

-- the view before any seat is cut off, with all workers
abbrev pub opening_view : BoardSize → SeatView
opening_view p = record { total = p.total; workers = p.workers; seated = fresh_from 0 p.workers }

-- a view with no worker
abbrev pub spent_view : SeatView
spent_view = record { total = 0; workers = 0; seated = [] }

-- the view with these workers
abbrev pub with_seated : SeatView → List Numbered → SeatView
with_seated v qs = record { total = v.total; workers = v.workers; seated = qs }

-- the view without its first worker, and the view with its first worker alone
abbrev pub others_of : SeatView → SeatView
others_of v = with_seated v (drop 1 v.seated)

abbrev pub first_of : SeatView → SeatView
first_of v = with_seated v (take 1 v.seated)

-- the view with the workers of another one too
abbrev pub both_of : SeatView → SeatView → SeatView
both_of v w = with_seated v (v.seated ++ w.seated)

-- the first worker of a view; the view of a seat has no other
abbrev pub head_of : List Numbered → Numbered
head_of [] = (0, fresh)
head_of (q ∷ qs) = q

abbrev pub number_of : SeatView → ℕ
number_of v = (head_of v.seated).0

abbrev pub worker_of : SeatView → WorkerState
worker_of v = (head_of v.seated).1

-- what contracts see of a seat of this table that has this view
abbrev pub seat_state : TableId → SeatView → SeatState
seat_state z v = record {
  board = record { table = z; total = v.total; workers = v.workers };
  number = number_of v;
  worker = worker_of v;
}

-- an exchange of a seat made this step, and its worker has become x
pub record Exchanged (Step : DeskState → DeskState → Type 0) (x : WorkerState) (v w : Holder) : Type 0 where
  pub became : w ≡ (with_seated v.0 ((number_of v.0, x) ∷ []), v.1)
  pub made : (z : TableId) → IsExchange Step (seat_state z v.0) (seat_state z w.0)

-- what each of the three exchanges says, when `found` was in the word
abbrev pub Claimed : Step (Unit {0}) → Holder → ℕ → Holder → Type 0
Claimed e v found w =
    Exchanged (λ s t. Claims s (number_of v.0) found t) (claiming v.0.total found (worker_of v.0)) v w

abbrev pub Looked : ℕ → Step (Unit {0}) → Holder → ℕ → Holder → Type 0
Looked index e v found w =
    Exchanged (λ s t. Looks s (number_of v.0) index t × (found ≡ s.least)) (looking found index (worker_of v.0)) v w

abbrev pub Failed : Step (Unit {0}) → Holder → ℕ → Holder → Type 0
Failed e v found w = Exchanged (λ s t. Fails s (number_of v.0) e.first t) (failing e.first (worker_of v.0)) v w

-- a seat with no worker has come
abbrev pub Entered : Step (Unit {0}) → Holder → ℕ → Holder → Type 0
Entered e v found w = (w.0 ≡ spent_view) × (w.1 ≡ [])
