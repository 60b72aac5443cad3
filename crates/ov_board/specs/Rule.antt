-- The rule of a board: what its two words and the views of all its seats show at every time, between any two exchanges
-- of any threads. The kit's table of words keeps it: each exchange is proved to lead from it to it, so all exchanges
-- follow one another in one history of claims.
use Rattle.std.specs.Prelude.{◌≡◌, ℕ, ◌<◌, ◌==◌, List, [], ◌∷◌, length}
use Rattle.std.specs.List.{sum_by, count_by}
use mathlib.Core.Option.{some}
use lib.ListN.{get_elem?}
use Rattle.atomic_table.specs.Table.{State}
use Rattle.ov_ids.specs.Members.{Has}
use Rattle.ov_board.specs.Claims.{WorkerState, DeskState, HasWorker, AreSoundClaims}
use Rattle.ov_board.specs.declared.ghost_views.BoardSize.{BoardSize}
use Rattle.ov_board.specs.declared.ghost_views.SeatView.{SeatView}

-- a worker with its number
abbrev pub Numbered : Type 0
Numbered = ℕ × WorkerState

-- how many of these workers have the number w
abbrev pub times : ℕ → List Numbered → ℕ
times w = count_by (λ q. q.0 == w)

-- the words show claims of a board of this size. The workers of all views are exactly the workers of the claims: each
-- is at its number, each number has one, and no worker is left over
pub record ShowsClaims (p : BoardSize) (t : State (Unit {0}) SeatView) : Type 0 where
  pub claims : DeskState
  pub words : t.words ≡ claims.next ∷ claims.least ∷ []
  pub sound : AreSoundClaims claims
  pub total : claims.total ≡ p.total
  pub workers : length claims.workers ≡ p.workers
  pub seated : (i : ℕ) (v : SeatView) (q : Numbered) → get_elem? t.views i ≡ some v → Has v.seated q
      → HasWorker claims q.0 q.1
  pub once : (w : ℕ) → w < p.workers → sum_by (λ v. times w v.seated) t.views ≡ 1
  pub all : sum_by (λ v. length v.seated) t.views ≡ p.workers
