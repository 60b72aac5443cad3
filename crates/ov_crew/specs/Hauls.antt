-- The haul of a worker: the pieces that it has settled.
use Rattle.std.specs.Prelude.{◌≡◌, ◌↔◌, ℕ, ◌+◌, ⊤, List, [], ◌∷◌, length, Some}
use Rattle.ov_ids.specs.Members.{Has, Ascends}
use Rattle.ov_graph.specs.Links.{LinkGraph}
use Rattle.ov_fans.specs.Pieces.{IsPiece}
use Rattle.ov_fans.specs.Cuts.{IsRight}
use Rattle.ov_fans.specs.Theorems.{IsNoCut}
use Rattle.ov_fans.specs.declared.piece_result.Settled.{Settled}
use Rattle.ov_board.specs.Claims.{WorkerState}
use Rattle.ov_even.specs.Order.{IsNumbered}
use Rattle.ov_even.specs.Hauls.{SettlesNumber}

-- the numbers that a worker has worked on, in ascending order: those that it claimed and did not skip
pub record AreWorkedOn (v : WorkerState) (numbers : List ℕ) : Type 0 where
  pub order : Ascends numbers
  pub each : (x : ℕ) → Has numbers x ↔ (Has v.claimed x × ¬ (v.skipped ≡ Some x))

-- there is one piece for each of these numbers, in the same order: for x the piece of number first + x
abbrev pub ArePiecesOf : LinkGraph → List ℕ → ℕ → List ℕ → List Settled → Type 0
ArePiecesOf g q first [] [] = ⊤
ArePiecesOf g q first [] (s ∷ pieces) = ⊥
ArePiecesOf g q first (x ∷ numbers) [] = ⊥
ArePiecesOf g q first (x ∷ numbers) (s ∷ pieces) =
    IsNumbered (length g.nodes) (length q) (first + x) s.piece × ArePiecesOf g q first numbers pieces

-- what a worker has settled of the pieces with the numbers from `first` on: its number x on the board means the piece
-- of number first + x. It has the pieces of the numbers that it worked on, in order, and no others. All results are
-- right. Its failed numbers are exactly those settled with a cut
pub record IsHaulOf (g : LinkGraph) (q : List ℕ) (first : ℕ) (v : WorkerState) (pieces : List Settled) : Type 0 where
  pub right : (s : Settled) → Has pieces s → IsPiece g q s.piece × IsRight g q s
  pub numbers : List ℕ
  pub worked_on : AreWorkedOn v numbers
  pub settled : ArePiecesOf g q first numbers pieces
  pub failed : (x : ℕ) → Has v.failed x ↔ ((s : Settled) × SettlesNumber g q pieces (first + x) s × ¬ IsNoCut s.found)
