-- The invariant of a desk: it holds after any turns of its workers.
use Rattle.std.specs.Prelude.{◌≡◌, ◌↔◌, ℕ, false, List, length, Some}
use Rattle.ov_ids.specs.Members.{Has}
use Rattle.ov_graph.specs.Links.{LinkGraph, IsGroup}
use Rattle.ov_fans.specs.Pieces.{IsPiece}
use Rattle.ov_fans.specs.Cuts.{IsRight}
use Rattle.ov_fans.specs.Theorems.{IsNoCut}
use Rattle.ov_fans.specs.declared.piece_result.Settled.{Settled}
use Rattle.ov_board.specs.Claims.{WorkerState, HasWorker, IsLegal}
use Rattle.ov_ids.specs.Workers.{MayWork}
use Rattle.ov_board.specs.Steps.{IsLast}
use Rattle.ov_even.specs.Hauls.{SettlesNumber}
use Rattle.ov_even.specs.Desk.{GroupDeskState, HasHand, HaveBeenSettled, IsNumberIn, AreToShare}
use Rattle.ov_even.specs.declared.piece_in_hand.Hand.{Hand}

-- the worker has finished number x: it claimed x, did not skip it, and no longer has it in hand
pub record IsThroughWith (v : WorkerState) (hand : Hand) (x : ℕ) : Type 0 where
  pub claimed : Has v.claimed x
  pub worked_on : ¬ (v.skipped ≡ Some x)
  pub put_down : ¬ IsNumberIn hand x

-- a sound worker. The number in its hand is the last that it claimed, and it has not ended then. Its settled pieces
-- have right results. They are exactly the pieces of the numbers that it has finished. Its failed numbers are exactly
-- those whose pieces were settled with a cut
pub record IsSoundWorker (g : LinkGraph) (q : List ℕ) (v : WorkerState) (hand : Hand) (pieces : List Settled)
    : Type 0 where
  pub last : (x : ℕ) → IsNumberIn hand x → IsLast v x
  pub goes_on : (x : ℕ) → IsNumberIn hand x → v.ended ≡ false
  pub right : (s : Settled) → Has pieces s → IsPiece g q s.piece × IsRight g q s
  pub through : (x : ℕ) → IsThroughWith v hand x ↔ ((s : Settled) × SettlesNumber g q pieces x s)
  pub failed : (x : ℕ) → Has v.failed x ↔ ((s : Settled) × SettlesNumber g q pieces x s × ¬ IsNoCut s.found)

-- a desk is sound for these links: its members are a group, the total is right, the claims are legal, there are 1 to 64
-- workers, and each worker is sound
pub record IsSoundDesk (g : LinkGraph) (d : GroupDeskState) : Type 0 where
  pub group : IsGroup g d.members
  pub share : AreToShare g d.members d.claims.total
  pub legal : IsLegal d.claims
  pub may_work : MayWork (length d.claims.workers)
  pub hands : length d.hands ≡ length d.claims.workers
  pub settled : length d.settled ≡ length d.claims.workers
  pub workers : (w : ℕ) (v : WorkerState) (hand : Hand) (pieces : List Settled) → HasWorker d.claims w v
      → HasHand d w hand → HaveBeenSettled d w pieces → IsSoundWorker g d.members v hand pieces
