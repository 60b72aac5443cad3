-- What sections of a scenario do that run at once, each by a driver of its own, over one hall. A pass tells what its
-- driver has seen of the hall's log: p is the pass before, and q the pass after.
use Rattle.std.specs.Prelude.{◌≡◌, ◌⊎◌, ℕ, ◌+◌, ◌≤◌, Bool, true, false, List, [], ◌∷◌, ◌++◌, length}
use Rattle.ov_ids.specs.FaultOrder.{IsRefusedBy}
use Rattle.ov_ids.specs.ParamsState.{ParamsState}
use Rattle.ov_even.specs.Answer.{IsAnswer}
use Rattle.ov_net.specs.Refusals.{IsRefusal}
use Rattle.ov_net.specs.declared.event.Event.{Event}
use Rattle.ov_net.specs.declared.fault.NetFault.{NetFault}
use Rattle.ov_net.specs.declared.journal_entry_and_changes.Entry.{Entry}
use Rattle.ov_snap.specs.CoreState.{CoreState}
use Rattle.ov_snap.specs.Refusals.{BeginJudged, FilingJudged}
use Rattle.ov_snap.specs.ReportState.{ReportState}
use Rattle.ov_snap.specs.declared.refused_core_call.CoreFault.{CoreFault}
use Rattle.ov_snap.specs.declared.refused_core_call.CoreFault.TheVariants.{OutOfMemory}
use Rattle.ov_snap.specs.declared.kept_snapshots.Snapshot.{Snapshot}
use Rattle.ov_snap.specs.Logs.{Begins, IsLog, core_made, of_driver}
use Rattle.ov_snap.specs.Parts.{total}
use Rattle.ov_snap.specs.DriverSteps.{HasBegun, HasFiled, HasLooked, HasStepped, ticket}
use Rattle.ov_snap.specs.declared.ghost_log_of_drivers.Mark.{Mark}
use Rattle.ov_snap.specs.declared.ghost_log_of_drivers.Ticket.{Ticket}
use Rattle.ov_run_meaning.specs.declared.line_run_outcome.LineOutcome.{LineOutcome}
use Rattle.ov_run_meaning.specs.declared.line_run_outcome.LineOutcome.TheVariants.{Accepted, Refused}
use Rattle.ov_run_meaning.specs.declared.refusal.Refusal.{Refusal}
use Rattle.ov_run_meaning.specs.declared.refusal.Refusal.TheVariants.{World, Core}
use Rattle.ov_scenario.specs.declared.line_of_section.Deed.{Deed}
use Rattle.ov_scenario.specs.declared.line_of_section.Deed.TheVariants as deed
use Rattle.ov_scenario.specs.Sections.{SectionLine}

-- ---- one line

-- the report is one on the snapshot s: of its moment and its links, for the group of all nodes, with the answer of an
-- analysis of them
pub record IsReportOn (s : Snapshot) (r : ReportState) : Type 0 where
  pub moment : r.moment ≡ s.moment
  pub graph : r.graph ≡ s.graph
  pub members : r.members ≡ s.graph.nodes
  pub answer : IsAnswer r.graph r.members r.cert

-- the report r was made: the pass looked, an analysis of all nodes of moment m began in the core that it saw then, and
-- r is a report on what the analysis was given
abbrev pub HasAnswered : ParamsState → Ticket → ℕ → ReportState → Ticket → Type 0
HasAnswered params p m r q =
    HasLooked p q × ((s : Snapshot) × HasBegun (core_made params q.seen) m s × IsReportOn s r)

-- an analysis was accepted: its report was made, and was filed after that
abbrev pub HasAnalysed : ParamsState → Ticket → ℕ → Ticket → Type 0
HasAnalysed params p m q =
    (r : ReportState) × (begun : Ticket) × HasAnswered params p m r begun × HasFiled params begun r q

-- an analysis was refused for this fault: in the core in which it would have begun, or, after its report was made, in
-- the core in which that would have been filed
abbrev pub IsRefusedAnalysis : ParamsState → Ticket → ℕ → CoreFault → Ticket → Type 0
IsRefusedAnalysis params p m fault q =
    (IsRefusedBy OutOfMemory (BeginJudged (core_made params q.seen) m) fault × HasLooked p q)
    ⊎ ((r : ReportState) × (begun : Ticket) × HasAnswered params p m r begun
    × IsRefusedBy OutOfMemory (FilingJudged (core_made params q.seen) r) fault
    × HasLooked begun q)

-- an event was refused for this fault in the core that the pass saw, and the driver did nothing
abbrev pub IsRefusedEvent : ParamsState → Ticket → Event → NetFault → Ticket → Type 0
IsRefusedEvent params p event fault q =
    IsRefusal (core_made params q.seen).world.net (length (core_made params q.seen).world.journal) event fault
    × HasLooked p q

-- a line was accepted: its event happened, or its report was filed
abbrev pub IsAccepted : ParamsState → Ticket → Deed → Ticket → Type 0
IsAccepted params p (deed.Event event words) q = (e : Entry) × HasStepped params p event words e q
IsAccepted params p (deed.Analyse m) q = HasAnalysed params p m q

-- a line was refused: an event by the world, an analysis by the core
abbrev pub IsRefused : ParamsState → Ticket → Deed → Refusal → Ticket → Type 0
IsRefused params p (deed.Event event words) (World fault) q = IsRefusedEvent params p event fault q
IsRefused params p (deed.Event event words) (Core fault) q = ⊥
IsRefused params p (deed.Analyse m) (World fault) q = ⊥
IsRefused params p (deed.Analyse m) (Core fault) q = IsRefusedAnalysis params p m fault q

-- what came of a line: it was accepted, or refused for this reason
abbrev pub RunsLine : ParamsState → Ticket → Deed → LineOutcome → Ticket → Type 0
RunsLine params p deed Accepted q = IsAccepted params p deed q
RunsLine params p deed (Refused refusal) q = IsRefused params p deed refusal q

-- ---- what is told of lines

-- a line that ran, and what came of it: the number and the text of the line of the file, and whether it is an event
pub record ToldLine : Type 0 where
  pub number : ℕ
  pub text : List ℕ
  pub is_event : Bool
  pub outcome : LineOutcome

-- whether a line of a section is an event
abbrev pub is_event : Deed → Bool
is_event (deed.Event event words) = true
is_event (deed.Analyse m) = false

-- what is told of a line of a section, of which this came
abbrev pub told_of : SectionLine → LineOutcome → ToldLine
told_of line outcome =
    record { number = line.number; text = line.text; is_event = is_event line.deed; outcome = outcome }

-- 1 for what was accepted
abbrev pub one_accepted : LineOutcome → ℕ
one_accepted Accepted = 1
one_accepted (Refused refusal) = 0

-- 1 for what was refused
abbrev pub one_refused : LineOutcome → ℕ
one_refused Accepted = 0
one_refused (Refused refusal) = 1

-- how many of these lines were accepted
abbrev pub accepted_in : List ToldLine → ℕ
accepted_in told = total (λ t. one_accepted t.outcome) told

-- how many of these lines were refused
abbrev pub refused_in : List ToldLine → ℕ
refused_in told = total (λ t. one_refused t.outcome) told

-- ---- one section

-- the lines of a section in order, by one driver, with what came of each
abbrev pub RunsSection : ParamsState → Ticket → List SectionLine → List ToldLine → Ticket → Type 0
RunsSection params p [] told q = (q ≡ p) × (told ≡ [])
RunsSection params p (line ∷ lines) told q =
    (next : Ticket) × (outcome : LineOutcome) × (others : List ToldLine) × RunsLine params p line.deed outcome next
    × RunsSection params next lines others q
    × (told ≡ told_of line outcome ∷ others)

-- ---- all sections at once

-- the sections in order, the first of them by driver d, with what came of all their lines, section by section. Each
-- section goes on from the log that was seen before the block; what its driver has seen at its end begins the log after
-- the block, with all that the driver did
abbrev pub RunSections : ParamsState → List Mark → List Mark → ℕ → List (List SectionLine) → List ToldLine → Type 0
RunSections params seen log d [] told = told ≡ []
RunSections params seen log d (section ∷ sections) told =
    (q : Ticket) × (own : List ToldLine) × (others : List ToldLine) × RunsSection params (ticket d seen) section own q
    × Begins d q.seen log
    × RunSections params seen log (d + 1) sections others
    × (told ≡ own ++ others)

-- the sections ran at once, section i by driver i, and made the core u of the core b: a log of a hall that makes b goes
-- on to one that makes u, by what the drivers of the sections did; this came of all their lines, section by section
pub record RunTogether (b : CoreState) (sections : List (List SectionLine)) (u : CoreState) (told : List ToldLine)
    : Type 0 where
  pub params : ParamsState
  pub drivers : ℕ
  pub seen : List Mark
  pub log : List Mark
  pub more : List Mark
  pub before : core_made params seen ≡ b
  pub after : core_made params log ≡ u
  pub is_log : IsLog params drivers log
  pub goes_on : log ≡ seen ++ more
  pub ran : RunSections params seen log 0 sections told
  pub no_others : (d : ℕ) → length sections ≤ d → of_driver d more ≡ 0
