-- How a desk keeps its claims.
use Rattle.std.specs.Prelude.{ℕ, List}
use Rattle.ov_board.specs.Claims.{WorkerState, DeskState}

-- the desk made of these parts
abbrev pub state : ℕ → ℕ → ℕ → List WorkerState → DeskState
state total next least workers = record { total = total; next = next; least = least; workers = workers }
