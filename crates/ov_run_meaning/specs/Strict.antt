-- What a strict run prints. Each of its lines is accepted, or it ends at the first one that is refused, of which
-- nothing is printed. b is the core before a line, and u the core after it.
use Rattle.std.specs.Prelude.{◌≡◌, ◌⊎◌, ℕ, Bool, true, false, List, [], ◌∷◌, ◌++◌, Option, IfSome}
use Rattle.std.specs.Io.KnownBytes.{Appends}
use Rattle.ov_scenario.specs.RunLines.{lines_that_run}
use Rattle.ov_scenario.specs.Scenarios.{IsScenario}
use Rattle.ov_scenario.specs.declared.scenario.Line.{Line}
use Rattle.ov_scenario.specs.declared.scenario.Line.TheVariants as line
use Rattle.ov_scenario.specs.declared.scenario.Scenario.{Scenario}
use Rattle.ov_snap.specs.CoreState.{CoreState, opening_core}
use Rattle.ov_run_meaning.specs.Accepting.{DoesEvent, FilesReport, RefusesAnalysis, RefusesEvent, RefusesLook}
use Rattle.ov_run_meaning.specs.Accepting.{ShowsLook}
use Rattle.ov_run_meaning.specs.Running.{PrintsLine, RunsBlock}
use Rattle.ov_run_meaning.specs.Sections.{RunTogether, ToldLine, refused_in}
use Rattle.ov_run_meaning.specs.declared.line_run_outcome.LineOutcome.TheVariants.{Refused}
use Rattle.ov_run_meaning.specs.declared.refusal.Refusal.{Refusal}
use Rattle.ov_run_meaning.specs.declared.strictness.Strictness.{Strictness}
use Rattle.ov_run_meaning.specs.declared.strictness.Strictness.TheVariants.{Lenient, Strict}

-- a run is strict if that is asked for
abbrev pub strictness_of : Bool → Strictness
strictness_of true = Strict
strictness_of false = Lenient

-- ---- one line

-- a line is accepted, and prints this; of a block none of the lines of its sections is refused
abbrev pub AcceptsLine : CoreState → Line → CoreState → List ℕ → Type 0
AcceptsLine b (line.Event event words) u text = DoesEvent b event words u text
AcceptsLine b (line.Look look) u text = (u ≡ b) × ShowsLook b look text
AcceptsLine b (line.Analyse subject workers) u text = FilesReport b subject u text
AcceptsLine b (line.Together sections) u text =
    (told : List ToldLine) × RunsBlock b sections told u text × (refused_in told ≡ 0)

-- a line prints this, and the run goes on after it: of a strict run only if the line is accepted
abbrev pub GoesOn : Strictness → CoreState → Line → CoreState → List ℕ → Type 0
GoesOn Lenient b line u text = PrintsLine b line u text
GoesOn Strict b line u text = AcceptsLine b line u text

-- the first of these lines of sections that was refused is line n of the file, and it was refused for this reason
abbrev pub IsFirstRefused : List ToldLine → ℕ → Refusal → Type 0
IsFirstRefused told n refusal =
    (before : List ToldLine) × (first : ToldLine) × (after : List ToldLine) × (told ≡ before ++ first ∷ after)
    × (refused_in before ≡ 0)
    × (first.number ≡ n)
    × (first.outcome ≡ Refused refusal)

-- line n of the file is refused for this reason: the line itself, for which line `own` of the file asks; or if it is a
-- block, whose sections have all run, the first of their lines that was refused
abbrev pub RefusesLine : CoreState → Line → ℕ → ℕ → Refusal → Type 0
RefusesLine b (line.Event event words) own n refusal = (n ≡ own) × RefusesEvent b event refusal
RefusesLine b (line.Look look) own n refusal = (n ≡ own) × RefusesLook b look refusal
RefusesLine b (line.Analyse subject workers) own n refusal = (n ≡ own) × RefusesAnalysis b subject refusal
RefusesLine b (line.Together sections) own n refusal =
    (u : CoreState) × (told : List ToldLine) × RunTogether b sections u told × IsFirstRefused told n refusal

-- ---- all lines

-- the lines in order, each of which is accepted
abbrev pub AcceptsLines : CoreState → List Line → CoreState → List ℕ → Type 0
AcceptsLines b [] u text = (u ≡ b) × (text ≡ [])
AcceptsLines b (line ∷ lines) u text =
    (next : CoreState) × (own : List ℕ) × (others : List ℕ) × AcceptsLine b line next own
    × AcceptsLines next lines u others
    × (text ≡ own ++ others)

-- the lines in order, each with the line of the file that asks for it, up to one of which line n of the file is refused
-- for this reason: each line before it is accepted, and nothing is printed of it
abbrev pub StopsLines : CoreState → List Line → List (ℕ × List ℕ) → ℕ → Refusal → List ℕ → Type 0
StopsLines b [] file_lines n refusal text = ⊥
StopsLines b (line ∷ lines) [] n refusal text = ⊥
StopsLines b (line ∷ lines) (file_line ∷ file_lines) n refusal text =
    (RefusesLine b line file_line.0 n refusal × (text ≡ []))
    ⊎ ((next : CoreState) × (own : List ℕ) × (others : List ℕ) × AcceptsLine b line next own
    × StopsLines next lines file_lines n refusal others
    × (text ≡ own ++ others))

-- these bytes say this scenario, and each of its lines is accepted; they print this text
pub record IsAcceptedScenario (bytes text : List ℕ) : Type 0 where
  pub scenario : Scenario
  pub says : IsScenario bytes scenario
  pub core : CoreState
  pub lines : AcceptsLines (opening_core scenario.params) scenario.lines.items core text

-- these bytes say this scenario, and line n of the file is the first that is refused, for this reason; the lines before
-- it print this text
pub record IsStoppedScenario (bytes : List ℕ) (n : ℕ) (refusal : Refusal) (text : List ℕ) : Type 0 where
  pub scenario : Scenario
  pub says : IsScenario bytes scenario
  pub lines : StopsLines (opening_core scenario.params) scenario.lines.items (lines_that_run bytes) n refusal text

-- all that the reader had was read, no line was refused, and the writer took what the scenario prints
abbrev pub AcceptsScenario : Option (List ℕ) → Option (List ℕ) → Option (List ℕ) → Type 0
AcceptsScenario reader before after =
    (bytes : List ℕ) × (text : List ℕ) × IfSome reader (λ xs. bytes ≡ xs) × IsAcceptedScenario bytes text
    × Appends before after text

-- all that the reader had was read, line n of it is the first that was refused, for this reason, and the writer took
-- what the lines before it print, and nothing else
abbrev pub StopsScenario : Option (List ℕ) → ℕ → Refusal → Option (List ℕ) → Option (List ℕ) → Type 0
StopsScenario reader n refusal before after =
    (bytes : List ℕ) × (text : List ℕ) × IfSome reader (λ xs. bytes ≡ xs) × IsStoppedScenario bytes n refusal text
    × Appends before after text
