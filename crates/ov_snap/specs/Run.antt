-- What the steps of a core do, and what a list of them makes of a core in which nothing happened: b is before, and u
-- after.
use Rattle.std.specs.Prelude.{◌≡◌, ◌⊎◌, ℕ, List, [], ◌∷◌, ◌++◌, length, replicate, Option, Some, None}
use Rattle.ov_ids.specs.ParamsState.{ParamsState}
use Rattle.ov_words.specs.Stream.{words_per_event}
use Rattle.ov_net.specs.NetStep.{NetStep}
use Rattle.ov_net.specs.Refusals.{StepJudged}
use Rattle.ov_net.specs.declared.journal_entry_and_changes.Entry.{Entry}
use Rattle.ov_net.specs.declared.event.Event.{Event}
use Rattle.ov_net.specs.declared.event.Event.TheVariants as event
use Rattle.ov_even.specs.Turns.{ClaimsNext, LooksNext, SettlesNext}
use Rattle.ov_snap.specs.CoreState.{CoreState, opening_core}
use Rattle.ov_snap.specs.DeskSteps.{WasOpened, WasOpenedForGroup, ClaimedAt, LookedAt, SettledAt, DeskWasFiled}
use Rattle.ov_snap.specs.Filing.{WasFiled}
use Rattle.ov_snap.specs.Refusals.{FilingJudged, OpeningJudged, GroupOpeningJudged, TurnJudged, DeskFilingJudged}
use Rattle.ov_snap.specs.Snapshots.{SnapshotsAfter}
use Rattle.ov_snap.specs.declared.core_steps.CoreStep.{CoreStep}
use Rattle.ov_snap.specs.declared.core_steps.CoreStep.TheVariants.{Net, File, OpenDesk, OpenGroupDesk, Claim}
use Rattle.ov_snap.specs.declared.core_steps.CoreStep.TheVariants.{Look, Settle, FileDesk}

-- an event happened: no refusal applied, the world took one step by it, and the entry of it is the last of the
-- journal and is numbered by its place there. A snapshot's links are kept. Desks and reports are the same
pub record Happened (b : CoreState) (what : Event) (words : List ℕ) (e : Entry) (u : CoreState) : Type 0 where
  pub judged : StepJudged b.world.net (length b.world.journal) what None
  pub step : NetStep b.world.net what words u.world.net e
  pub journal : u.world.journal ≡ b.world.journal ++ e ∷ []
  pub number : e.number ≡ length u.world.journal
  pub snapshots : SnapshotsAfter u.world.journal what b.snapshots u.snapshots
  pub desks : u.desks ≡ b.desks
  pub reports : u.reports ≡ b.reports

-- the random words of a snapshot, which makes no choice: all are zero
abbrev pub zero_words : List ℕ
zero_words = replicate words_per_event 0

-- a snapshot was taken, and m is its moment: the number of its entry
abbrev pub TookSnapshot : CoreState → ℕ → CoreState → Type 0
TookSnapshot b m u = (e : Entry) × (e.number ≡ m) × Happened b event.Snapshot zero_words e u

-- a step was refused: the first applicable refusal left all as it was
abbrev pub WasRefused : {E : Type 0} → (Option E → Type 0) → CoreState → CoreState → Type 0
WasRefused {E} Judged b u = ((fault : E) × Judged (Some fault)) × (u ≡ b)

-- one step: it was accepted, or the first applicable refusal left all as it was
abbrev pub Takes : CoreState → CoreStep → CoreState → Type 0
Takes b (Net what words) u =
    ((e : Entry) × Happened b what words e u)
    ⊎ WasRefused (StepJudged b.world.net (length b.world.journal) what) b u
Takes b (OpenDesk m workers) u =
    ((place : ℕ) × WasOpened b m workers place u) ⊎ WasRefused (OpeningJudged b m workers) b u
Takes b (OpenGroupDesk m members workers) u =
    ((place : ℕ) × WasOpenedForGroup b m members.items workers place u)
    ⊎ WasRefused (GroupOpeningJudged b m members.items workers) b u
Takes b (Claim desk worker) u =
    ((number : ℕ) × ClaimedAt b desk worker number u) ⊎ WasRefused (TurnJudged ClaimsNext b desk worker) b u
Takes b (Look desk worker) u =
    ((least : ℕ) × LookedAt b desk worker least u) ⊎ WasRefused (TurnJudged LooksNext b desk worker) b u
Takes b (Settle desk worker) u =
    SettledAt b desk worker u ⊎ WasRefused (TurnJudged SettlesNext b desk worker) b u
Takes b (FileDesk desk) u = DeskWasFiled b desk u ⊎ WasRefused (DeskFilingJudged b desk) b u
Takes b (File r) u = WasFiled b r u ⊎ WasRefused (FilingJudged b r) b u

-- these steps in order
abbrev pub TakesAll : CoreState → List CoreStep → CoreState → Type 0
TakesAll b [] c = b ≡ c
TakesAll b (step ∷ steps) c = (u : CoreState) × Takes b step u × TakesAll u steps c

-- c is what these steps in order make of a core in which nothing happened
abbrev pub CoreRun : ParamsState → List CoreStep → CoreState → Type 0
CoreRun params steps c = TakesAll (opening_core params) steps c

-- the step may end out of memory: no refusal applies to it. A look never does, since it allocates nothing
abbrev pub MayRunOut : CoreState → CoreStep → Type 0
MayRunOut b (Net what words) = StepJudged b.world.net (length b.world.journal) what None
MayRunOut b (OpenDesk m workers) = OpeningJudged b m workers None
MayRunOut b (OpenGroupDesk m members workers) = GroupOpeningJudged b m members.items workers None
MayRunOut b (Claim desk worker) = TurnJudged ClaimsNext b desk worker None
MayRunOut b (Look desk worker) = ⊥
MayRunOut b (Settle desk worker) = TurnJudged SettlesNext b desk worker None
MayRunOut b (FileDesk desk) = DeskFilingJudged b desk None
MayRunOut b (File r) = FilingJudged b r None

-- a run of these steps ended out of memory: one of them did, in the core that those before it made
pub record RanOut (params : ParamsState) (steps : List CoreStep) : Type 0 where
  pub done : List CoreStep
  pub step : CoreStep
  pub rest : List CoreStep
  pub parted : steps ≡ done ++ step ∷ rest
  pub core : CoreState
  pub run : CoreRun params done core
  pub out : MayRunOut core step
