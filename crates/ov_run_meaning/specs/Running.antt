-- What a scenario prints as it runs. A core is a world with its reports; b is the core before, and u the core after.
-- What an event does to a core is `Happened`, and why it is refused `IsRefusal`. Of an analysis these are `WasAnalysed`
-- and `AnalysisJudged`.
use Rattle.std.specs.Prelude.{◌≡◌, ◌⊎◌, ℕ, ◌+◌, List, [], ◌∷◌, ◌++◌, length, Option, IfSome}
use Rattle.std.specs.Io.KnownBytes.{Appends}
use Rattle.ov_wire.specs.Messages.{Spelling}
use Rattle.ov_wire.specs.declared.message.Message.{Message}
use Rattle.ov_peer.specs.PeerState.{PeerState}
use Rattle.ov_net.specs.Net.{Net, LivesAs, IsGone}
use Rattle.ov_net.specs.Refusals as net
use Rattle.ov_net.specs.declared.journal_entry_and_changes.Entry.{Entry}
use Rattle.ov_net.specs.declared.event.Event.{Event}
use Rattle.ov_net.specs.declared.fault.NetFault.{NetFault}
use Rattle.ov_net.specs.declared.fault.NetFault.TheVariants.{UnknownNode, CrashedNode}
use Rattle.ov_snap.specs.CoreState.{CoreState, opening_core}
use Rattle.ov_snap.specs.ReportState.{ReportState}
use Rattle.ov_snap.specs.Refusals as core
use Rattle.ov_snap.specs.declared.refused_core_call.CoreFault.TheVariants.{NoSuchMoment, OutOfMemory}
use Rattle.ov_ids.specs.FaultOrder.{IsRefusedBy}
use Rattle.ov_snap.specs.Run.{Happened}
use Rattle.ov_snap.specs.declared.refused_core_call.CoreFault.{CoreFault}
use Rattle.ov_run_meaning.specs.Printed.{entry_line, refused_line, report_line, file_text, node_line, packet_line}
use Rattle.ov_run_meaning.specs.Printed.{together_line}
use Rattle.ov_run_meaning.specs.Sections.{RunTogether, ToldLine, accepted_in, refused_in}
use Rattle.ov_scenario.specs.Scenarios.{IsScenario}
use Rattle.ov_scenario.specs.Sections.{SectionLine}
use Rattle.ov_run_meaning.specs.Subjects.{IsReportOf, AnalysisJudged, WasAnalysed}
use Rattle.ov_scenario.specs.declared.scenario.Line.{Line}
use Rattle.ov_scenario.specs.declared.scenario.Line.TheVariants as line
use Rattle.ov_scenario.specs.declared.scenario.Look.{Look}
use Rattle.ov_scenario.specs.declared.scenario.Look.TheVariants.{Show, Packets, Certificate}
use Rattle.ov_scenario.specs.declared.scenario.Scenario.{Scenario}
use Rattle.ov_scenario.specs.declared.scenario.Subject.{Subject}

-- an event happens and its entry is printed, or it is refused, nothing changes, and the number of the refusal is
-- printed
abbrev pub PrintsEvent : CoreState → Event → List ℕ → CoreState → List ℕ → Type 0
PrintsEvent b event words u text =
    ((e : Entry) × Happened b event words e u × (text ≡ entry_line e))
    ⊎ ((fault : NetFault) × net.IsRefusal b.world.net (length b.world.journal) event fault × (u ≡ b)
    × (text ≡ refused_line (net.number_of fault)))

-- the overlay is analysed and the line of its report is printed, or the analysis is refused, nothing changes, and the
-- number of the refusal is printed
abbrev pub PrintsReportLine : CoreState → Subject → CoreState → List ℕ → Type 0
PrintsReportLine b subject u text =
    ((r : ReportState) × WasAnalysed b subject r u × (text ≡ report_line r.moment r.cert r.graph r.members))
    ⊎ ((fault : CoreFault) × IsRefusedBy OutOfMemory (AnalysisJudged b subject) fault × (u ≡ b)
    × (text ≡ refused_line (core.number_of fault)))

-- the views of a node that lives; one that was never born is refused as unknown (10), one that crashed as crashed (12)
abbrev pub PrintsNode : Net → ℕ → List ℕ → Type 0
PrintsNode w id text =
    ((p : PeerState) × LivesAs w id p × (text ≡ node_line id p))
    ⊎ ((¬ net.IsBorn w id) × (text ≡ refused_line (net.number_of UnknownNode)))
    ⊎ (IsGone w id × (text ≡ refused_line (net.number_of CrashedNode)))

-- packets in order, each by the bytes that spell its message; the first of them has this place
abbrev pub PrintsPackets : ℕ → List (ℕ × Message) → List ℕ → Type 0
PrintsPackets place [] text = text ≡ []
PrintsPackets place (packet ∷ packets) text =
    (bytes : List ℕ) × (others : List ℕ) × Spelling packet.1 bytes × PrintsPackets (place + 1) packets others
    × (text ≡ packet_line place packet.0 bytes ++ others)

-- the certificate file of the report that is filed for this subject, or the refusal of out of memory (99) if the
-- file can't be made; without a report the refusal is that of a moment without a snapshot (50)
abbrev pub PrintsCertificate : CoreState → Subject → List ℕ → Type 0
PrintsCertificate b subject text =
    ((r : ReportState) × IsReportOf b subject r
    × ((text ≡ file_text r.cert r.graph r.members r.moment) ⊎ (text ≡ refused_line (core.number_of OutOfMemory))))
    ⊎ (((r : ReportState) → ¬ IsReportOf b subject r) × (text ≡ refused_line (core.number_of NoSuchMoment)))

-- what is looked at
abbrev pub PrintsLook : CoreState → Look → List ℕ → Type 0
PrintsLook b (Show id) text = PrintsNode b.world.net id text
PrintsLook b Packets text = PrintsPackets 0 b.world.net.packets text
PrintsLook b (Certificate subject) text = PrintsCertificate b subject text

-- the sections of a block run at once, and this comes of all their lines; after all of them ended one line is printed:
-- how many sections there are, how many of these lines were accepted, and how many were refused
abbrev pub RunsBlock : CoreState → List (List SectionLine) → List ToldLine → CoreState → List ℕ → Type 0
RunsBlock b sections told u text =
    RunTogether b sections u told
    × (text ≡ together_line (length sections) (accepted_in told) (refused_in told))

-- the same, whatever comes of the lines
abbrev pub PrintsBlock : CoreState → List (List SectionLine) → CoreState → List ℕ → Type 0
PrintsBlock b sections u text = (told : List ToldLine) × RunsBlock b sections told u text

-- one line of a scenario. Any number of workers may share out an analysis: what is said of its line is the same
abbrev pub PrintsLine : CoreState → Line → CoreState → List ℕ → Type 0
PrintsLine b (line.Event event words) u text = PrintsEvent b event words u text
PrintsLine b (line.Look look) u text = (u ≡ b) × PrintsLook b look text
PrintsLine b (line.Analyse subject workers) u text = PrintsReportLine b subject u text
PrintsLine b (line.Together sections) u text = PrintsBlock b sections u text

-- the lines in order
abbrev pub PrintsLines : CoreState → List Line → CoreState → List ℕ → Type 0
PrintsLines b [] u text = (u ≡ b) × (text ≡ [])
PrintsLines b (line ∷ lines) u text =
    (next : CoreState) × (own : List ℕ) × (others : List ℕ) × PrintsLine b line next own
    × PrintsLines next lines u others
    × (text ≡ own ++ others)

-- these bytes say this scenario, and its lines print this text from a world on in which nothing happened
pub record IsOutput (bytes text : List ℕ) : Type 0 where
  pub scenario : Scenario
  pub says : IsScenario bytes scenario
  pub core : CoreState
  pub lines : PrintsLines (opening_core scenario.params) scenario.lines.items core text

-- all that the reader had was read, and the writer took what the scenario prints after what it held
abbrev pub PrintsScenario : Option (List ℕ) → Option (List ℕ) → Option (List ℕ) → Type 0
PrintsScenario reader before after =
    (bytes : List ℕ) × (text : List ℕ) × IfSome reader (λ xs. bytes ≡ xs) × IsOutput bytes text
    × Appends before after text
