-- The haul of a worker that keeps each piece, or those with a cut alone.
use Rattle.std.specs.Prelude.{◌≡◌, ℕ, ◌+◌, List, length, Some}
use Rattle.ov_ids.specs.Members.{Has}
use Rattle.ov_graph.specs.Links.{LinkGraph}
use Rattle.ov_fans.specs.Pieces.{IsPiece, IsGood}
use Rattle.ov_fans.specs.Cuts.{IsRight}
use Rattle.ov_fans.specs.Theorems.{IsNoCut}
use Rattle.ov_fans.specs.declared.piece.Piece.{Piece}
use Rattle.ov_fans.specs.declared.piece_result.Settled.{Settled}
use Rattle.ov_board.specs.Claims.{WorkerState}
use Rattle.ov_even.specs.Hauls.{SettlesNumber}
use Rattle.ov_even.specs.Order.{IsNumbered}
use Rattle.ov_even.specs.declared.worker_haul.Keeping.{Keeping}
use Rattle.ov_even.specs.declared.worker_haul.Keeping.TheVariants.{EachPiece, CutsAlone}
use Rattle.ov_crew.specs.Hauls.{IsHaulOf}

-- what a worker has kept that keeps cuts alone, of the pieces with the numbers from `first` on: its number x on the
-- board means the piece of number first + x. All results are right. Each piece that it worked on is good, unless its
-- number failed; then it has the piece with its cut
pub record AreCutsOf (g : LinkGraph) (q : List ℕ) (first : ℕ) (v : WorkerState) (pieces : List Settled) : Type 0 where
  pub right : (s : Settled) → Has pieces s → IsPiece g q s.piece × IsRight g q s
  pub good : (x : ℕ) → Has v.claimed x → ¬ (v.skipped ≡ Some x) → ¬ Has v.failed x → (r : Piece)
      → IsNumbered (length g.nodes) (length q) (first + x) r → IsGood g q r
  pub failed : (x : ℕ) → Has v.failed x
      → (s : Settled) × SettlesNumber g q pieces (first + x) s × ¬ IsNoCut s.found

-- the haul of a worker that keeps this
abbrev pub IsHaulKeeping : Keeping → LinkGraph → List ℕ → ℕ → WorkerState → List Settled → Type 0
IsHaulKeeping EachPiece g q first v pieces = IsHaulOf g q first v pieces
IsHaulKeeping CutsAlone g q first v pieces = AreCutsOf g q first v pieces
