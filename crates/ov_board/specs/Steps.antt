-- The three steps of the claims. Each step changes one worker. `s` is the state before the step, and `t` the state
-- after it.
use Rattle.std.specs.Prelude.{◌≡◌, ℕ, ◌+◌, true, false, nat_lt, List, [], ◌∷◌, ◌++◌, Some, if◌then◌else◌}
use Rattle.std.specs.Prelude.{min, slice_set}
use Rattle.ov_ids.specs.Members.{Has}
use Rattle.ov_ids.specs.Sets.{adding}
use Rattle.ov_board.specs.Claims.{WorkerState, DeskState, HasWorker}

-- the worker after it was given number x: if x is below the total, it has claimed x, otherwise it has ended
abbrev pub claiming : ℕ → ℕ → WorkerState → WorkerState
claiming total x v = if nat_lt x total then record v { claimed = v.claimed ++ x ∷ [] } else record v { ended = true }

-- the worker after it looked before working on x: if a lower number has failed, it skips x and has ended, otherwise it
-- is unchanged
abbrev pub looking : ℕ → ℕ → WorkerState → WorkerState
looking least x v = if nat_lt least x then record v { skipped = Some x; ended = true } else v

-- the worker after x failed
abbrev pub failing : ℕ → WorkerState → WorkerState
failing x v = record v { failed = adding x v.failed }

-- x is the last number that the worker claimed
abbrev pub IsLast : WorkerState → ℕ → Type 0
IsLast v x = (earlier : List ℕ) × (v.claimed ≡ earlier ++ x ∷ [])

-- worker w, which has not ended, claims the next number x
pub record Claims (s : DeskState) (w x : ℕ) (t : DeskState) : Type 0 where
  pub worker : WorkerState
  pub has : HasWorker s w worker
  pub goes_on : worker.ended ≡ false
  pub number : x ≡ s.next
  pub after : t ≡ record s { next = s.next + 1; workers = slice_set s.workers w (claiming s.total x worker) }

-- worker w, which has not ended, looks before working on x, one of its numbers
pub record Looks (s : DeskState) (w x : ℕ) (t : DeskState) : Type 0 where
  pub worker : WorkerState
  pub has : HasWorker s w worker
  pub goes_on : worker.ended ≡ false
  pub own : Has worker.claimed x
  pub after : t ≡ record s { workers = slice_set s.workers w (looking s.least x worker) }

-- worker w reports that x, one of its numbers, failed
pub record Fails (s : DeskState) (w x : ℕ) (t : DeskState) : Type 0 where
  pub worker : WorkerState
  pub has : HasWorker s w worker
  pub own : Has worker.claimed x
  pub after : t ≡ record s { least = min x s.least; workers = slice_set s.workers w (failing x worker) }
