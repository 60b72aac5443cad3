-- What a line does that is accepted, with the text that it prints, and why a line is refused, which changes nothing. b
-- is the core before, and u the core after.
use Rattle.std.specs.Prelude.{◌≡◌, ◌⊎◌, ℕ, List, length}
use Rattle.ov_ids.specs.FaultOrder.{IsRefusedBy}
use Rattle.ov_net.specs.Net.{Net, LivesAs, IsGone}
use Rattle.ov_net.specs.Refusals.{IsBorn, IsRefusal}
use Rattle.ov_net.specs.declared.event.Event.{Event}
use Rattle.ov_net.specs.declared.fault.NetFault.TheVariants.{UnknownNode, CrashedNode}
use Rattle.ov_net.specs.declared.journal_entry_and_changes.Entry.{Entry}
use Rattle.ov_peer.specs.PeerState.{PeerState}
use Rattle.ov_scenario.specs.declared.scenario.Look.{Look}
use Rattle.ov_scenario.specs.declared.scenario.Look.TheVariants.{Show, Packets, Certificate}
use Rattle.ov_scenario.specs.declared.scenario.Subject.{Subject}
use Rattle.ov_snap.specs.CoreState.{CoreState}
use Rattle.ov_snap.specs.ReportState.{ReportState}
use Rattle.ov_snap.specs.Run.{Happened}
use Rattle.ov_snap.specs.declared.refused_core_call.CoreFault.TheVariants.{NoSuchMoment, OutOfMemory}
use Rattle.ov_run_meaning.specs.Printed.{entry_line, file_text, node_line, report_line}
use Rattle.ov_run_meaning.specs.Running.{PrintsPackets}
use Rattle.ov_run_meaning.specs.Subjects.{AnalysisJudged, IsReportOf, WasAnalysed}
use Rattle.ov_run_meaning.specs.declared.refusal.Refusal.{Refusal}
use Rattle.ov_run_meaning.specs.declared.refusal.Refusal.TheVariants.{World, Core}

-- ---- accepted

-- an event happens, and its entry is printed
abbrev pub DoesEvent : CoreState → Event → List ℕ → CoreState → List ℕ → Type 0
DoesEvent b event words u text = (e : Entry) × Happened b event words e u × (text ≡ entry_line e)

-- the overlay is analysed, and the line of its report is printed
abbrev pub FilesReport : CoreState → Subject → CoreState → List ℕ → Type 0
FilesReport b subject u text =
    (r : ReportState) × WasAnalysed b subject r u × (text ≡ report_line r.moment r.cert r.graph r.members)

-- a node lives, and its views are printed
abbrev pub ShowsNode : Net → ℕ → List ℕ → Type 0
ShowsNode w id text = (p : PeerState) × LivesAs w id p × (text ≡ node_line id p)

-- a report is filed for this subject, and its certificate file is printed
abbrev pub ShowsCertificate : CoreState → Subject → List ℕ → Type 0
ShowsCertificate b subject text =
    (r : ReportState) × IsReportOf b subject r × (text ≡ file_text r.cert r.graph r.members r.moment)

-- what is looked at is there, and is printed
abbrev pub ShowsLook : CoreState → Look → List ℕ → Type 0
ShowsLook b (Show id) text = ShowsNode b.world.net id text
ShowsLook b Packets text = PrintsPackets 0 b.world.net.packets text
ShowsLook b (Certificate subject) text = ShowsCertificate b subject text

-- ---- refused

-- the world refuses an event for this reason
abbrev pub RefusesEvent : CoreState → Event → Refusal → Type 0
RefusesEvent b event (World fault) = IsRefusal b.world.net (length b.world.journal) event fault
RefusesEvent b event (Core fault) = ⊥

-- the core refuses an analysis for this reason
abbrev pub RefusesAnalysis : CoreState → Subject → Refusal → Type 0
RefusesAnalysis b subject (Core fault) = IsRefusedBy OutOfMemory (AnalysisJudged b subject) fault
RefusesAnalysis b subject (World fault) = ⊥

-- a node is not shown for this reason: it was never born, or it crashed
abbrev pub HidesNode : Net → ℕ → Refusal → Type 0
HidesNode w id refusal =
    ((¬ IsBorn w id) × (refusal ≡ World UnknownNode)) ⊎ (IsGone w id × (refusal ≡ World CrashedNode))

-- a certificate file is not printed for this reason: no report is filed for the subject, or one is, and memory ran out
abbrev pub HidesCertificate : CoreState → Subject → Refusal → Type 0
HidesCertificate b subject refusal =
    (((r : ReportState) → ¬ IsReportOf b subject r) × (refusal ≡ Core NoSuchMoment))
    ⊎ (((r : ReportState) × IsReportOf b subject r) × (refusal ≡ Core OutOfMemory))

-- a look is refused for this reason; a look at the packets never is
abbrev pub RefusesLook : CoreState → Look → Refusal → Type 0
RefusesLook b (Show id) refusal = HidesNode b.world.net id refusal
RefusesLook b Packets refusal = ⊥
RefusesLook b (Certificate subject) refusal = HidesCertificate b subject refusal
