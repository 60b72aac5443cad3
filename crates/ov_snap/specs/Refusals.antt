-- Why a core refuses: the refusals of each call in their order. The first applicable one is returned. A definition
-- `..Judged` holds for the first applicable refusal of a call, or for None if no refusal applies. A definition `..Then`
-- begins such a chain: its own conditions come first, and if they all hold, `After` decides.
use Rattle.std.specs.Prelude.{ℕ, ◌<◌, List, length, Option}
use Rattle.ov_ids.specs.FaultOrder.{HoldsThen, Passed}
use Rattle.ov_graph.specs.Links.{LinkGraph, IsGroup}
use Rattle.ov_net.specs.Journal.{AreLinks, Live}
use Rattle.ov_ids.specs.Workers.{MayWork}
use Rattle.ov_board.specs.Theorems.{AllEnded}
use Rattle.ov_even.specs.Desk.{GroupDeskState}
use Rattle.ov_even.specs.Turns.{IsWorkerOf}
use Rattle.ov_snap.specs.CoreState.{CoreState, HasReport, HasDesk, most_desks}
use Rattle.ov_snap.specs.ReportState.{ReportState}
use Rattle.ov_snap.specs.Snapshots.{IsMoment}
use Rattle.ov_snap.specs.declared.refused_core_call.CoreFault.{CoreFault}
use Rattle.ov_snap.specs.declared.refused_core_call.CoreFault.TheVariants.{NoSuchMoment, NoNodes}
use Rattle.ov_snap.specs.declared.refused_core_call.CoreFault.TheVariants.{BadGroup, TooManyDesks}
use Rattle.ov_snap.specs.declared.refused_core_call.CoreFault.TheVariants.{NoSuchDesk, NoSuchWorker}
use Rattle.ov_snap.specs.declared.refused_core_call.CoreFault.TheVariants.{WrongTurn, NotEnded}
use Rattle.ov_snap.specs.declared.refused_core_call.CoreFault.TheVariants.{OtherGraph, AlreadyFiled, OutOfMemory}

-- the number of each fault
abbrev pub number_of : CoreFault → ℕ
number_of NoSuchMoment = 50
number_of NoNodes = 30
number_of BadGroup = 34
number_of TooManyDesks = 58
number_of NoSuchDesk = 53
number_of NoSuchWorker = 57
number_of WrongTurn = 54
number_of NotEnded = 55
number_of OtherGraph = 51
number_of AlreadyFiled = 52
number_of OutOfMemory = 99

-- m must be a moment, else NoSuchMoment; then `After` decides
abbrev pub MomentThen : CoreState → ℕ → (Option CoreFault → Type 0) → Option CoreFault → Type 0
MomentThen b m After answer = HoldsThen (IsMoment b.world.journal m) NoSuchMoment After answer

-- m must be a moment; somebody must have lived at it, else NoNodes; then `After` decides
abbrev pub SomebodyLivedThen : CoreState → ℕ → (Option CoreFault → Type 0) → Option CoreFault → Type 0
SomebodyLivedThen b m After answer =
    MomentThen b m (HoldsThen ((a : ℕ) × Live b.world.journal m a) NoNodes After) answer

-- these are a group of the nodes of this moment
abbrev pub IsGroupAt : CoreState → ℕ → List ℕ → Type 0
IsGroupAt b m q = (g : LinkGraph) × AreLinks b.world.journal m g × IsGroup g q

-- somebody must have lived at the moment m, and these must be a group of its nodes, else BadGroup; then `After` decides
abbrev pub GroupThen : CoreState → ℕ → List ℕ → (Option CoreFault → Type 0) → Option CoreFault → Type 0
GroupThen b m q After answer = SomebodyLivedThen b m (HoldsThen (IsGroupAt b m q) BadGroup After) answer

-- the first applicable refusal of beginning an analysis of all nodes of a moment
abbrev pub BeginJudged : CoreState → ℕ → Option CoreFault → Type 0
BeginJudged b m answer = SomebodyLivedThen b m Passed answer

-- the first applicable refusal of beginning an analysis of a group at a moment
abbrev pub GroupBeginJudged : CoreState → ℕ → List ℕ → Option CoreFault → Type 0
GroupBeginJudged b m q answer = GroupThen b m q Passed answer

-- there is a report for this moment and group among those that are filed
abbrev pub IsFiled : CoreState → ℕ → List ℕ → Type 0
IsFiled b m q = (r : ReportState) × HasReport b m q r

-- the first applicable refusal of filing a report: its moment is no snapshot's; its graph does not have the links of
-- that moment; a report is filed already for that moment and its group
abbrev pub FilingJudged : CoreState → ReportState → Option CoreFault → Type 0
FilingJudged b r answer =
    MomentThen b r.moment
    (HoldsThen (AreLinks b.world.journal r.moment r.graph) OtherGraph
    (HoldsThen (¬ IsFiled b r.moment r.members) AlreadyFiled Passed)) answer

-- the last two refusals of opening a desk: no more desks may be opened; this many workers may not work at one
abbrev pub WorkersJudged : CoreState → ℕ → Option CoreFault → Type 0
WorkersJudged b workers answer =
    HoldsThen (length b.desks < most_desks) TooManyDesks (HoldsThen (MayWork workers) NoSuchWorker Passed) answer

-- the first applicable refusal of opening a desk for all nodes of a moment
abbrev pub OpeningJudged : CoreState → ℕ → ℕ → Option CoreFault → Type 0
OpeningJudged b m workers answer = SomebodyLivedThen b m (WorkersJudged b workers) answer

-- the first applicable refusal of opening a desk for a group at a moment
abbrev pub GroupOpeningJudged : CoreState → ℕ → List ℕ → ℕ → Option CoreFault → Type 0
GroupOpeningJudged b m q workers answer = GroupThen b m q (WorkersJudged b workers) answer

-- this holds of desk i
abbrev pub HoldsAt : CoreState → ℕ → (GroupDeskState → Type 0) → Type 0
HoldsAt b i Holds = (d : GroupDeskState) × HasDesk b i d × Holds d

-- there must be a desk i, else NoSuchDesk; then `After` decides
abbrev pub DeskThen : CoreState → ℕ → (Option CoreFault → Type 0) → Option CoreFault → Type 0
DeskThen b i After answer = HoldsThen ((d : GroupDeskState) × HasDesk b i d) NoSuchDesk After answer

-- there must be a desk i, and it must have a worker w, else NoSuchWorker; then `After` decides
abbrev pub WorkerThen : CoreState → ℕ → ℕ → (Option CoreFault → Type 0) → Option CoreFault → Type 0
WorkerThen b i w After answer = DeskThen b i (HoldsThen (HoldsAt b i (λ d. IsWorkerOf d w)) NoSuchWorker After) answer

-- the first applicable refusal of a turn of a worker at a desk: there is no such desk; it has no such worker; this is
-- not the worker's next turn
abbrev pub TurnJudged : (GroupDeskState → ℕ → Type 0) → CoreState → ℕ → ℕ → Option CoreFault → Type 0
TurnJudged IsNext b i w answer =
    WorkerThen b i w (HoldsThen (HoldsAt b i (λ d. IsNext d w)) WrongTurn Passed) answer

-- the first applicable refusal of filing the result of a desk: there is no such desk; not all its workers have ended; a
-- report is filed already for its moment and its group
abbrev pub DeskFilingJudged : CoreState → ℕ → Option CoreFault → Type 0
DeskFilingJudged b i answer =
    DeskThen b i
    (HoldsThen (HoldsAt b i (λ d. AllEnded d.claims)) NotEnded
    (HoldsThen (¬ HoldsAt b i (λ d. IsFiled b d.moment d.members)) AlreadyFiled Passed)) answer
