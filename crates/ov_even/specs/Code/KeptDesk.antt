-- The invariant of a desk.
use Rattle.std.specs.Prelude.{◌≡◌, ℕ, false, List, length, map}
use Rattle.ov_fans.specs.declared.piece_result.Settled.{Settled}
use Rattle.ov_board.specs.Claims.{WorkerState, DeskState, HasWorker}
use Rattle.ov_ids.specs.Workers.{MayWork}
use Rattle.ov_board.specs.Steps.{IsLast}
use Rattle.ov_even.specs.declared.worker_haul.Haul.{Haul}
use Rattle.ov_even.specs.Desk.{GroupDeskState, HasHand, IsNumberIn}
use Rattle.ov_even.specs.declared.piece_in_hand.Hand.{Hand}

-- the pieces of each haul
abbrev pub pieces_in : List Haul → List (List Settled)
pieces_in hauls = map (λ haul. haul.pieces.items) hauls

-- the desk made of these parts
abbrev pub state : ℕ → List ℕ → DeskState → List Hand → List Haul → GroupDeskState
state moment members claims hands hauls = record {
  moment = moment;
  members = members;
  claims = claims;
  hands = hands;
  settled = pieces_in hauls;
}

-- the number in a worker's hand is the last that it claimed, and the worker has not ended
abbrev pub IsClaimedLast : WorkerState → Hand → Type 0
IsClaimedLast v hand = (x : ℕ) → IsNumberIn hand x → IsLast v x × (v.ended ≡ false)

-- there are 1 to 64 workers, each with a hand and a haul; a number in a hand is the last that its worker claimed
pub record IsKept (s : GroupDeskState) : Type 0 where
  pub may_work : MayWork (length s.claims.workers)
  pub hands : length s.hands ≡ length s.claims.workers
  pub settled : length s.settled ≡ length s.claims.workers
  pub claimed : (w : ℕ) (v : WorkerState) (hand : Hand) → HasWorker s.claims w v → HasHand s w hand
      → IsClaimedLast v hand
