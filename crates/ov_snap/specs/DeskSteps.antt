-- What happens at the desks of a core: b is before, and u after.
use Rattle.std.specs.Prelude.{◌≡◌, ℕ, List, [], ◌∷◌, ◌++◌, length, slice_set, None}
use Rattle.ov_graph.specs.Links.{LinkGraph}
use Rattle.ov_net.specs.Journal.{AreLinks}
use Rattle.ov_even.specs.Answer.{IsAnswer}
use Rattle.ov_even.specs.Desk.{GroupDeskState, IsOpened}
use Rattle.ov_even.specs.Turns.{ClaimsNext, LooksNext, SettlesNext, WasClaimed, WasLookedAt, WasSettled}
use Rattle.ov_snap.specs.CoreState.{CoreState, HasDesk}
use Rattle.ov_snap.specs.ReportState.{ReportState}
use Rattle.ov_snap.specs.Filing.{WasFiled}
use Rattle.ov_snap.specs.Refusals.{OpeningJudged, GroupOpeningJudged, TurnJudged, DeskFilingJudged}

-- one more desk follows the others, at this place, counted from 0: it is for a group of this moment, has these links,
-- and no turn was taken at it. Nothing else changed
pub record HasOneDeskMore (b : CoreState) (g : LinkGraph) (m : ℕ) (q : List ℕ) (workers place : ℕ) (u : CoreState)
    : Type 0 where
  pub desk : GroupDeskState
  pub opened : IsOpened g m q workers desk
  pub counted : place ≡ length b.desks
  pub desks : u ≡ record b { desks = b.desks ++ desk ∷ [] }

-- a desk was opened for all nodes of a moment: no refusal applied, and the desk has the links of that moment
pub record WasOpened (b : CoreState) (m workers place : ℕ) (u : CoreState) : Type 0 where
  pub judged : OpeningJudged b m workers None
  pub graph : LinkGraph
  pub links : AreLinks b.world.journal m graph
  pub desk : HasOneDeskMore b graph m graph.nodes workers place u

-- a desk was opened for a group of the nodes of a moment: the same
pub record WasOpenedForGroup (b : CoreState) (m : ℕ) (q : List ℕ) (workers place : ℕ) (u : CoreState) : Type 0 where
  pub judged : GroupOpeningJudged b m q workers None
  pub graph : LinkGraph
  pub links : AreLinks b.world.journal m graph
  pub desk : HasOneDeskMore b graph m q workers place u

-- such a turn was taken at desk i, and nothing else changed
pub record HasTurned (b : CoreState) (i : ℕ) (Turn : GroupDeskState → GroupDeskState → Type 0) (u : CoreState)
    : Type 0 where
  pub before : GroupDeskState
  pub has : HasDesk b i before
  pub after : GroupDeskState
  pub turn : Turn before after
  pub desks : u ≡ record b { desks = slice_set b.desks i after }

-- worker w of desk i claimed number x: no refusal applied
pub record ClaimedAt (b : CoreState) (i w x : ℕ) (u : CoreState) : Type 0 where
  pub judged : TurnJudged ClaimsNext b i w None
  pub turned : HasTurned b i (λ d e. WasClaimed d w x e) u

-- worker w of desk i looked, and saw the lowest number that failed: no refusal applied
pub record LookedAt (b : CoreState) (i w least : ℕ) (u : CoreState) : Type 0 where
  pub judged : TurnJudged LooksNext b i w None
  pub turned : HasTurned b i (λ d e. WasLookedAt d w least e) u

-- worker w of desk i settled its piece for the links of the desk's moment: no refusal applied
pub record SettledAt (b : CoreState) (i w : ℕ) (u : CoreState) : Type 0 where
  pub judged : TurnJudged SettlesNext b i w None
  pub graph : LinkGraph
  pub turned : HasTurned b i (λ d e. AreLinks b.world.journal d.moment graph × WasSettled graph d w e) u

-- the result of desk i was filed: no refusal applied, and the report has the desk's moment and group, and the answer of
-- an analysis of them
pub record DeskWasFiled (b : CoreState) (i : ℕ) (u : CoreState) : Type 0 where
  pub judged : DeskFilingJudged b i None
  pub desk : GroupDeskState
  pub has : HasDesk b i desk
  pub report : ReportState
  pub moment : report.moment ≡ desk.moment
  pub members : report.members ≡ desk.members
  pub answer : IsAnswer report.graph report.members report.cert
  pub filed : WasFiled b report u
