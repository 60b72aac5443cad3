-- How workers share out the numbers 0, 1, 2, .. below a total. A worker claims the next number and looks whether a
-- lower number has failed. If so, it skips its number and ends. Otherwise it works on its number, and reports a failure
-- if there is one. So the lowest number that fails is found.
use Rattle.std.specs.Prelude.{◌≡◌, ◌↔◌, ◌⊎◌, ℕ, ◌+◌, ◌<◌, ◌≤◌, Bool, true, false, List, [], length, replicate}
use Rattle.std.specs.Prelude.{Option, Some, None, slice_get}
use Rattle.std.specs.List.{filter}
use Rattle.ov_board.specs.Limits.{piece_limit}
use Rattle.ov_ids.specs.Members.{Has, Ascends}
use Rattle.ov_ids.specs.Workers.{MayWork}

-- a worker: the numbers it has claimed, ascending; those of them that failed, ascending; the number it skipped, if any;
-- and whether it has ended
pub record WorkerState : Type 0 where
  pub claimed : List ℕ
  pub failed : List ℕ
  pub skipped : Option ℕ
  pub ended : Bool

-- a desk: the number of numbers to share out; the next number; the lowest number that failed, or the total if none
-- failed; and the workers, counted from 0
pub record DeskState : Type 0 where
  pub total : ℕ
  pub next : ℕ
  pub least : ℕ
  pub workers : List WorkerState

-- a worker that has not claimed a number yet
abbrev pub fresh : WorkerState
fresh = record { claimed = []; failed = []; skipped = None; ended = false }

-- the claims of this many workers, before the first claim
abbrev pub opening_claims : ℕ → ℕ → DeskState
opening_claims total workers = record { total = total; next = 0; least = total; workers = replicate workers fresh }

-- worker w is in this state
abbrev pub HasWorker : DeskState → ℕ → WorkerState → Type 0
HasWorker s w v = slice_get s.workers w ≡ Some v

-- worker w has claimed x
abbrev pub HasClaimed : DeskState → ℕ → ℕ → Type 0
HasClaimed s w x = (v : WorkerState) × HasWorker s w v × Has v.claimed x

-- x has failed
abbrev pub HasFailed : DeskState → ℕ → Type 0
HasFailed s x = (w : ℕ) × (v : WorkerState) × HasWorker s w v × Has v.failed x

-- how many workers have ended
abbrev pub count_ended : List WorkerState → ℕ
count_ended workers = length (filter (λ v. v.ended) workers)

-- a legal worker. It has claimed all its failed numbers and the number it skipped. It skips only a number above the
-- lowest failed one, and has then ended. If it ended without skipping, all numbers were claimed
pub record IsLegalWorker (s : DeskState) (v : WorkerState) : Type 0 where
  pub claimed_ascends : Ascends v.claimed
  pub failed_ascends : Ascends v.failed
  pub failed_own : (x : ℕ) → Has v.failed x → Has v.claimed x
  pub skipped_own : (x : ℕ) → v.skipped ≡ Some x → Has v.claimed x
  pub skipped_above : (x : ℕ) → v.skipped ≡ Some x → s.least < x
  pub skipped_ended : (x : ℕ) → v.skipped ≡ Some x → v.ended ≡ true
  pub ended_above : v.ended ≡ true → v.skipped ≡ None → s.total < s.next

-- a legal state. The claimed numbers are exactly those below the next number and below the total, and each is claimed
-- by one worker only. The next number exceeds the total by at most the number of workers that have ended. `least` is
-- the lowest number that failed, or the total
pub record IsLegal (s : DeskState) : Type 0 where
  pub workers : (w : ℕ) (v : WorkerState) → HasWorker s w v → IsLegalWorker s v
  pub claimed : (x : ℕ) → ((w : ℕ) × HasClaimed s w x) ↔ ((x < s.next) × (x < s.total))
  pub once : (x w u : ℕ) → HasClaimed s w x → HasClaimed s u x → w ≡ u
  pub next : s.next ≤ s.total + count_ended s.workers
  pub least_failed : (HasFailed s s.least) ⊎ (s.least ≡ s.total)
  pub least : (x : ℕ) → HasFailed s x → s.least ≤ x

-- sound claims, as those of a desk or a board are: they are legal, the total is below `piece_limit`, and there are
-- 1 to 64 workers
pub record AreSoundClaims (s : DeskState) : Type 0 where
  pub legal : IsLegal s
  pub total : s.total < piece_limit
  pub may_work : MayWork (length s.workers)
