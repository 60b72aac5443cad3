-- What one of several drivers of a core has seen of their log, and what it did: p is what it had seen before, and q
-- what it has seen after.
use Rattle.std.specs.Prelude.{◌≡◌, ℕ, true, false, List, [], ◌∷◌, ◌++◌, None}
use Rattle.ov_ids.specs.ParamsState.{ParamsState}
use Rattle.ov_graph.specs.Links.{IsGroup}
use Rattle.ov_net.specs.Journal.{AreLinks}
use Rattle.ov_net.specs.declared.event.Event.{Event}
use Rattle.ov_net.specs.declared.event.Event.TheVariants as event
use Rattle.ov_net.specs.declared.journal_entry_and_changes.Entry.{Entry}
use Rattle.ov_snap.specs.CoreState.{CoreState}
use Rattle.ov_snap.specs.Filing.{WasFiled}
use Rattle.ov_snap.specs.Logs.{Begins, core_made, mark}
use Rattle.ov_snap.specs.Refusals.{BeginJudged, GroupBeginJudged}
use Rattle.ov_snap.specs.ReportState.{ReportState}
use Rattle.ov_snap.specs.Run.{Happened, zero_words}
use Rattle.ov_snap.specs.declared.ghost_log_of_drivers.Mark.{Mark}
use Rattle.ov_snap.specs.declared.ghost_log_of_drivers.Ticket.{Ticket}
use Rattle.ov_snap.specs.declared.kept_snapshots.Snapshot.{Snapshot}

-- the driver d, and what it has seen
abbrev pub ticket : ℕ → List Mark → Ticket
ticket d seen = record { driver = d; seen = seen }

-- the driver has seen more, with nothing new of its own
abbrev pub HasLooked : Ticket → Ticket → Type 0
HasLooked p q = (q.driver ≡ p.driver) × Begins p.driver p.seen q.seen

-- after all that came between, with nothing of the driver, an event of the driver happened; its mark is the last that
-- the driver has seen
pub record HasStepped (params : ParamsState) (p : Ticket) (what : Event) (words : List ℕ) (e : Entry) (q : Ticket)
    : Type 0 where
  pub before : List Mark
  pub between : Begins p.driver p.seen before
  pub core : CoreState
  pub happened : Happened (core_made params before) what words e core
  pub after : q ≡ ticket p.driver (before ++ mark p.driver false core ∷ [])

-- the same if the event is a snapshot, and m is its moment
abbrev pub HasTakenSnapshot : ParamsState → Ticket → ℕ → Ticket → Type 0
HasTakenSnapshot params p m q = (e : Entry) × (e.number ≡ m) × HasStepped params p event.Snapshot zero_words e q

-- the same if a report was filed
pub record HasFiled (params : ParamsState) (p : Ticket) (r : ReportState) (q : Ticket) : Type 0 where
  pub before : List Mark
  pub between : Begins p.driver p.seen before
  pub core : CoreState
  pub filed : WasFiled (core_made params before) r core
  pub after : q ≡ ticket p.driver (before ++ mark p.driver true core ∷ [])

-- what an analysis of all nodes of moment m is given in the core b: the moment, and the links that both ends held then
pub record HasBegun (b : CoreState) (m : ℕ) (s : Snapshot) : Type 0 where
  pub judged : BeginJudged b m None
  pub moment : s.moment ≡ m
  pub links : AreLinks b.world.journal m s.graph

-- the same of an analysis of a group
pub record HasBegunForGroup (b : CoreState) (m : ℕ) (q : List ℕ) (s : Snapshot) : Type 0 where
  pub judged : GroupBeginJudged b m q None
  pub moment : s.moment ≡ m
  pub links : AreLinks b.world.journal m s.graph
  pub group : IsGroup s.graph q
