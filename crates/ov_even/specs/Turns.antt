-- The turns at a desk. Each is a turn of one worker w; d is the desk before the turn, and e the desk after it.
use Rattle.std.specs.Prelude.{◌≡◌, ◌⊎◌, ℕ, ◌<◌, nat_lt, false, List, [], ◌∷◌, ◌++◌, length, slice_set}
use Rattle.std.specs.Prelude.{if◌then◌else◌}
use Rattle.ov_graph.specs.Links.{LinkGraph}
use Rattle.ov_fans.specs.Cuts.{IsRight}
use Rattle.ov_fans.specs.Theorems.{IsNoCut}
use Rattle.ov_fans.specs.declared.piece_result.Settled.{Settled}
use Rattle.ov_board.specs.Claims.{WorkerState, HasWorker}
use Rattle.ov_board.specs.Steps.{Claims, Looks, Fails}
use Rattle.ov_even.specs.Order.{IsNumbered}
use Rattle.ov_even.specs.Desk.{GroupDeskState, HasHand, HaveBeenSettled}
use Rattle.ov_even.specs.declared.piece_in_hand.Hand.TheVariants.{Nothing, Claimed, Looked}

-- w is a worker of the desk
abbrev pub IsWorkerOf : GroupDeskState → ℕ → Type 0
IsWorkerOf d w = w < length d.claims.workers

-- the worker's next turn is a claim: it has nothing in hand and has not ended
abbrev pub ClaimsNext : GroupDeskState → ℕ → Type 0
ClaimsNext d w = HasHand d w Nothing × ((v : WorkerState) × HasWorker d.claims w v × (v.ended ≡ false))

-- the worker's next turn is a look: it has claimed the number in its hand
abbrev pub LooksNext : GroupDeskState → ℕ → Type 0
LooksNext d w = (x : ℕ) × HasHand d w (Claimed x)

-- the worker's next turn is to settle: it has looked at the claims for the number in its hand, and goes on with it
abbrev pub SettlesNext : GroupDeskState → ℕ → Type 0
SettlesNext d w = (x : ℕ) × HasHand d w (Looked x)

-- the worker claims the next number x. If x is below the total, the worker takes it in hand, otherwise it has ended
pub record WasClaimed (d : GroupDeskState) (w x : ℕ) (e : GroupDeskState) : Type 0 where
  pub hand : HasHand d w Nothing
  pub claims : Claims d.claims w x e.claims
  pub after : e ≡ record d {
    claims = e.claims;
    hands = slice_set d.hands w (if nat_lt x d.claims.total then Claimed x else Nothing);
  }

-- the worker looks before it works on the number in its hand. `least` is the lowest failed number. If it is below the
-- number in hand, the worker skips its number and has ended, otherwise it goes on
pub record WasLookedAt (d : GroupDeskState) (w least : ℕ) (e : GroupDeskState) : Type 0 where
  pub number : ℕ
  pub hand : HasHand d w (Claimed number)
  pub told : least ≡ d.claims.least
  pub claims : Looks d.claims w number e.claims
  pub after : e ≡ record d {
    claims = e.claims;
    hands = slice_set d.hands w (if nat_lt least number then Nothing else Looked number);
  }

-- the worker settles the piece of the number in its hand. If the result is a cut, the number fails
pub record WasSettled (g : LinkGraph) (d : GroupDeskState) (w : ℕ) (e : GroupDeskState) : Type 0 where
  pub number : ℕ
  pub hand : HasHand d w (Looked number)
  pub piece : Settled
  pub numbered : IsNumbered (length g.nodes) (length d.members) number piece.piece
  pub right : IsRight g d.members piece
  pub claims : (IsNoCut piece.found × (e.claims ≡ d.claims))
      ⊎ (¬ IsNoCut piece.found × Fails d.claims w number e.claims)
  pub before : List Settled
  pub had : HaveBeenSettled d w before
  pub after : e ≡ record d {
    claims = e.claims;
    hands = slice_set d.hands w Nothing;
    settled = slice_set d.settled w (before ++ piece ∷ []);
  }
