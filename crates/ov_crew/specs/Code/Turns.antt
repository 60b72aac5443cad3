-- One round of a worker: it takes a number or stops, and settles the piece of the number that it took. The worker was w
-- and has become v.
use Rattle.std.specs.Prelude.{◌≡◌, ◌↔◌, ◌⊎◌, ℕ, ◌<◌, true, List, [], ◌∷◌, ◌++◌, Some}
use Rattle.ov_ids.specs.Members.{Has}
use Rattle.ov_graph.specs.Links.{LinkGraph}
use Rattle.ov_fans.specs.Cuts.{IsRight}
use Rattle.ov_fans.specs.Pieces.{IsGood}
use Rattle.ov_fans.specs.Theorems.{IsNoCut}
use Rattle.ov_fans.specs.declared.piece.Piece.{Piece}
use Rattle.ov_fans.specs.declared.piece_result.Settled.{Settled}
use Rattle.ov_board.specs.Claims.{WorkerState}
use Rattle.ov_board.specs.Steps.{failing}
use Rattle.ov_even.specs.declared.worker_haul.Keeping.{Keeping}
use Rattle.ov_even.specs.declared.worker_haul.Keeping.TheVariants.{CutsAlone}

-- the worker has taken x, a number below the total and above all that it had claimed
pub record HasTaken (total x : ℕ) (w v : WorkerState) : Type 0 where
  pub below : x < total
  pub later : (y : ℕ) → Has w.claimed y → y < x
  pub became : v ≡ record w { claimed = w.claimed ++ x ∷ [] }

-- the worker has ended. The numbers that it claimed and did not skip are those that it had claimed before
pub record HasStopped (w v : WorkerState) : Type 0 where
  pub ended : v.ended ≡ true
  pub failed : v.failed ≡ w.failed
  pub worked_on : (x : ℕ) → (Has v.claimed x × ¬ (v.skipped ≡ Some x)) ↔ Has w.claimed x

-- the worker has settled a piece, which is the last of its pieces, and has failed at its number x if that is a cut
pub record HasSettled (g : LinkGraph) (q : List ℕ) (piece : Piece) (x : ℕ) (w v : WorkerState)
    (before after : List Settled) : Type 0 where
  pub settled : Settled
  pub of_piece : settled.piece ≡ piece
  pub right : IsRight g q settled
  pub pieces : after ≡ before ++ settled ∷ []
  pub became : (IsNoCut settled.found × (v ≡ w)) ⊎ ((¬ IsNoCut settled.found) × (v ≡ failing x w))

-- the worker has settled a piece and kept it; or the piece is good and cuts alone are kept, and nothing has changed
abbrev pub HasSettledKeeping : Keeping → LinkGraph → List ℕ → Piece → ℕ → WorkerState → WorkerState → List Settled
    → List Settled → Type 0
HasSettledKeeping keeping g q piece x w v before after =
    ((keeping ≡ CutsAlone) × IsGood g q piece × (v ≡ w) × (after ≡ before)) ⊎ HasSettled g q piece x w v before after
