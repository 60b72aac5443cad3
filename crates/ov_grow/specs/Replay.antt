-- Lines of a scenario that are accepted, one after the other: what a core becomes by them, and what they print. b is
-- the core before, and u the core after. Chosen here.
use Rattle.std.specs.Prelude.{◌≡◌, ℕ, List, [], ◌∷◌, ◌++◌, length, None}
use Rattle.ov_net.specs.Refusals.{MayHappen}
use Rattle.ov_net.specs.declared.journal_entry_and_changes.Entry.{Entry}
use Rattle.ov_snap.specs.CoreState.{CoreState, opening_core}
use Rattle.ov_snap.specs.ReportState.{ReportState}
use Rattle.ov_snap.specs.Run.{Happened}
use Rattle.ov_scenario.specs.Scenarios.{IsScenario}
use Rattle.ov_scenario.specs.declared.scenario.Line.{Line}
use Rattle.ov_scenario.specs.declared.scenario.Line.TheVariants as line
use Rattle.ov_scenario.specs.declared.scenario.Scenario.{Scenario}
use Rattle.ov_run_meaning.specs.Printed.{entry_line, report_line}
use Rattle.ov_run_meaning.specs.Subjects.{AnalysisJudged, WasAnalysed}

-- the line is accepted: its event happens, or its analysis files a report. A recording has no look and no block of
-- sections, so none is accepted
abbrev pub AcceptsLine : CoreState → Line → CoreState → Type 0
AcceptsLine b (line.Event event words) u = (e : Entry) × Happened b event words e u
AcceptsLine b (line.Analyse subject workers) u = (r : ReportState) × WasAnalysed b subject r u
AcceptsLine b other u = ⊥

-- the lines in order, each accepted
abbrev pub AcceptsAll : CoreState → List Line → CoreState → Type 0
AcceptsAll b [] u = u ≡ b
AcceptsAll b (line ∷ lines) u = (next : CoreState) × AcceptsLine b line next × AcceptsAll next lines u

-- the bytes of a file replay the core c: they say a scenario, and c is what its lines make, each accepted, of a core in
-- which nothing happened
pub record Replays (bytes : List ℕ) (c : CoreState) : Type 0 where
  pub scenario : Scenario
  pub says : IsScenario bytes scenario
  pub accepted : AcceptsAll (opening_core scenario.params) scenario.lines.items c

-- no refusal applies to the line, so that only memory can be lacking for it
abbrev pub MayBeAccepted : CoreState → Line → Type 0
MayBeAccepted b (line.Event event words) = MayHappen b.world.net (length b.world.journal) event
MayBeAccepted b (line.Analyse subject workers) = AnalysisJudged b subject None
MayBeAccepted b other = ⊥

-- the line is accepted, and what it prints is the line of the event's entry, or the line of the report
abbrev pub PrintsAccepted : CoreState → Line → CoreState → List ℕ → Type 0
PrintsAccepted b (line.Event event words) u text = (e : Entry) × Happened b event words e u × (text ≡ entry_line e)
PrintsAccepted b (line.Analyse subject workers) u text =
    (r : ReportState) × WasAnalysed b subject r u × (text ≡ report_line r.moment r.cert r.graph r.members)
PrintsAccepted b other u text = ⊥

-- the lines in order, each accepted, and what they print
abbrev pub PrintsAllAccepted : CoreState → List Line → CoreState → List ℕ → Type 0
PrintsAllAccepted b [] u text = (u ≡ b) × (text ≡ [])
PrintsAllAccepted b (line ∷ lines) u text =
    (next : CoreState) × (own : List ℕ) × (others : List ℕ) × PrintsAccepted b line next own
    × PrintsAllAccepted next lines u others
    × (text ≡ own ++ others)
