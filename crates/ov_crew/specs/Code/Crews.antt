-- What the workers of a crew have done at a board, while they are put together.
use Rattle.std.specs.Prelude.{◌≡◌, ℕ, ◌+◌, ◌<◌, true, List, [], ◌∷◌, length, Result, Ok, IfOk, OnOk}
use Rattle.ov_board.specs.Limits.{piece_limit}
use Rattle.ov_ids.specs.declared.out_of_memory.OutOfMemory.{OutOfMemory}
use Rattle.ov_graph.specs.Links.{LinkGraph}
use Rattle.ov_board.specs.Claims.{fresh}
use Rattle.ov_board.specs.Board.{BoardState, SeatState}
use Rattle.ov_even.specs.Order.{AreMoreThan}
use Rattle.ov_even.specs.declared.worker_haul.Haul.{Haul}
use Rattle.ov_even.specs.declared.worker_haul.Keeping.{Keeping}
use Rattle.ov_crew.specs.Code.Kept.{IsHaulKeeping}

-- the numbers from `first` on, `total` of them, are numbers of pieces, and a board may share out as many
pub record IsRange (g : LinkGraph) (q : List ℕ) (first total : ℕ) : Type 0 where
  pub below : (x : ℕ) → x < total → AreMoreThan (length g.nodes) (length q) (first + x)
  pub small : first + total < piece_limit

-- a seat of the board before its first claim
abbrev pub IsNewAt : BoardState → SeatState → Type 0
IsNewAt b s = (s.board ≡ b) × (s.worker ≡ fresh)

-- what a worker returns: its haul, and its seat
abbrev pub Outcome : Type 0
Outcome = Result Haul OutOfMemory × SeatState

-- a worker has worked at the board: it has ended, and this is its haul, unless it was out of memory
pub record HasWorked (keeping : Keeping) (g : LinkGraph) (q : List ℕ) (first : ℕ) (b : BoardState) (o : Outcome)
    : Type 0 where
  pub board : o.1.board ≡ b
  pub ended : OnOk o.0 (o.1.worker.ended ≡ true)
  pub haul : IfOk o.0 (λ h. IsHaulKeeping keeping g q first o.1.worker h.pieces.items)

-- what workers with these hauls and these seats return
abbrev pub outcomes : List Haul → List SeatState → List Outcome
outcomes [] seats = []
outcomes (h ∷ hauls) [] = []
outcomes (h ∷ hauls) (s ∷ seats) = (Ok h, s) ∷ outcomes hauls seats

-- each seat's worker has the haul at its place
abbrev pub AreHaulsOf : Keeping → LinkGraph → List ℕ → ℕ → List SeatState → List Haul → Type 0
AreHaulsOf keeping g q first [] [] = Unit {0}
AreHaulsOf keeping g q first [] (h ∷ hauls) = ⊥
AreHaulsOf keeping g q first (s ∷ seats) [] = ⊥
AreHaulsOf keeping g q first (s ∷ seats) (h ∷ hauls) =
    IsHaulKeeping keeping g q first s.worker h.pieces.items × AreHaulsOf keeping g q first seats hauls
