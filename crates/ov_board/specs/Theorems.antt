-- Theorems about all claims.
use Rattle.std.specs.Prelude.{◌≡◌, ◌⊎◌, ℕ, ◌<◌, ◌≤◌, true, length, Some}
use Rattle.ov_board.specs.Claims.{WorkerState, DeskState, HasWorker, HasClaimed, HasFailed, IsLegal, opening_claims}
use Rattle.ov_board.specs.Steps.{Claims, Looks, Fails}

-- the state before the first claim is legal, and each step keeps a legal state legal
pub record StaysLegal : Type 0 where
  pub opens : (total workers : ℕ) → IsLegal (opening_claims total workers)
  pub claims : (s t : DeskState) (w x : ℕ) → IsLegal s → Claims s w x t → IsLegal t
  pub looks : (s t : DeskState) (w x : ℕ) → IsLegal s → Looks s w x t → IsLegal t
  pub fails : (s t : DeskState) (w x : ℕ) → IsLegal s → Fails s w x t → IsLegal t

-- every worker has ended
abbrev pub AllEnded : DeskState → Type 0
AllEnded s = (w : ℕ) (v : WorkerState) → HasWorker s w v → v.ended ≡ true

-- no worker skipped x
abbrev pub IsSkippedByNone : DeskState → ℕ → Type 0
IsSkippedByNone s x = (w : ℕ) (v : WorkerState) → HasWorker s w v → ¬ (v.skipped ≡ Some x)

-- every number below `least` was claimed and not skipped; and `least` is the lowest number that failed, or no number
-- failed and it is the total
pub record IsDone (s : DeskState) : Type 0 where
  pub below : (x : ℕ) → x < s.least → (w : ℕ) × HasClaimed s w x
  pub worked_on : (x : ℕ) → x < s.least → IsSkippedByNone s x
  pub least : HasFailed s s.least ⊎ (s.least ≡ s.total)
  pub no_lower : (x : ℕ) → HasFailed s x → s.least ≤ x

-- if there is a worker and all workers have ended, the work is done, in the sense of `IsDone`
abbrev pub EndsDone : Type 0
EndsDone = (s : DeskState) → IsLegal s → 0 < length s.workers → AllEnded s → IsDone s
