-- A desk at which workers share out the pieces of Even's test (Even, SIAM J. Comput. 4, 1975). A worker claims the
-- number of a piece, looks whether a lower number has failed, settles the piece, and claims again. A number fails if
-- its piece is settled with a cut, that is, if the piece is not good.
use Rattle.std.specs.Prelude.{◌≡◌, ℕ, List, [], length, replicate, slice_get, Some}
use Rattle.ov_ids.specs.Members.{Has}
use Rattle.ov_graph.specs.Links.{LinkGraph, AreAllLinked}
use Rattle.ov_fans.specs.declared.piece_result.Settled.{Settled}
use Rattle.ov_board.specs.Claims.{DeskState, opening_claims}
use Rattle.ov_even.specs.Order.{AreSoMany}
use Rattle.ov_even.specs.declared.piece_in_hand.Hand.{Hand}
use Rattle.ov_even.specs.declared.piece_in_hand.Hand.TheVariants.{Nothing, Claimed, Looked}

-- a desk: the moment whose links are analysed, the members of the group, and the claims of the workers. For each
-- worker, counted from 0: what it has in hand, and the pieces that it has settled, in order
pub record GroupDeskState : Type 0 where
  pub moment : ℕ
  pub members : List ℕ
  pub claims : DeskState
  pub hands : List Hand
  pub settled : List (List Settled)

-- `hand` is what worker w has in hand
abbrev pub HasHand : GroupDeskState → ℕ → Hand → Type 0
HasHand d w hand = slice_get d.hands w ≡ Some hand

-- these are the pieces that worker w has settled
abbrev pub HaveBeenSettled : GroupDeskState → ℕ → List Settled → Type 0
HaveBeenSettled d w pieces = slice_get d.settled w ≡ Some pieces

-- one of the workers has settled this piece with this result
abbrev pub IsSettledAt : GroupDeskState → Settled → Type 0
IsSettledAt d s = (w : ℕ) × (pieces : List Settled) × HaveBeenSettled d w pieces × Has pieces s

-- x is the number in this hand
abbrev pub IsNumberIn : Hand → ℕ → Type 0
IsNumberIn Nothing x = ⊥
IsNumberIn (Claimed y) x = x ≡ y
IsNumberIn (Looked y) x = x ≡ y

-- `total` is how many numbers are shared out: none if every two members are linked, otherwise one for each piece
pub record AreToShare (g : LinkGraph) (q : List ℕ) (total : ℕ) : Type 0 where
  pub none : AreAllLinked g q → total ≡ 0
  pub each : ¬ AreAllLinked g q → AreSoMany (length g.nodes) (length q) total

-- a new desk for a group at moment m, whose links are those of g; no worker has taken a turn yet
pub record IsOpened (g : LinkGraph) (m : ℕ) (q : List ℕ) (workers : ℕ) (d : GroupDeskState) : Type 0 where
  pub total : ℕ
  pub share : AreToShare g q total
  pub desk : d ≡ record {
    moment = m;
    members = q;
    claims = opening_claims total workers;
    hands = replicate workers Nothing;
    settled = replicate workers [];
  }
