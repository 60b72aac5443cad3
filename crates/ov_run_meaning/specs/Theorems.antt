-- The main theorem, for a user who runs a scenario: what holds of each line that is printed of a report.
use Rattle.std.specs.Prelude.{◌≡◌, ◌⊎◌, ℕ, List}
use Rattle.ov_ids.specs.Members.{Has}
use Rattle.ov_ids.specs.ParamsState.{ParamsState}
use Rattle.ov_snap.specs.CoreState.{CoreState, opening_core}
use Rattle.ov_snap.specs.ReportState.{ReportState, IsTrueReport}
use Rattle.ov_run_meaning.specs.Printed.{report_line, file_text, refused_line}
use Rattle.ov_run_meaning.specs.Running.{PrintsLine, PrintsLines}
use Rattle.ov_run_meaning.specs.Subjects.{members_of}
use Rattle.ov_scenario.specs.declared.scenario.Line.{Line}
use Rattle.ov_scenario.specs.declared.scenario.Line.TheVariants as line
use Rattle.ov_scenario.specs.declared.scenario.Look.TheVariants.{Certificate}
use Rattle.ov_scenario.specs.declared.scenario.Subject.{Subject}

-- the report is for the moment and the group of the subject, and what it says is true
pub record IsSoOf (u : CoreState) (subject : Subject) (r : ReportState) : Type 0 where
  pub is_true : IsTrueReport u.world.journal r
  pub moment : r.moment ≡ subject.moment
  pub members : r.members ≡ members_of subject.group r.graph

-- the text refuses, and nothing changed
abbrev pub Refuses : CoreState → CoreState → List ℕ → Type 0
Refuses b u text = (number : ℕ) × (u ≡ b) × (text ≡ refused_line number)

-- some lines made this core of a world in which nothing happened
abbrev pub IsMade : CoreState → Type 0
IsMade b =
    (params : ParamsState) × (lines : List Line) × (text : List ℕ)
    × PrintsLines (opening_core params) lines b text

-- whatever lines ran before: what `analyse` prints is a refusal, or the line of a report of what it asks for; what
-- `certificate` prints is a refusal, or the certificate file of such a report; and what the report says is true. A
-- snapshot was taken at its moment, and its graph has exactly the links that both ends held then; crashing the nodes
-- that it names splits its group, or every two members are linked; and no fewer crashes split it. The same is true of
-- each report that is filed when a line has run, so of those that the sections of a block file, and print nowhere
pub record EveryPrintedReportIsTrue : Type 0 where
  pub analysed : (b : CoreState) (subject : Subject) (workers : ℕ) (u : CoreState) (text : List ℕ) → IsMade b
      → PrintsLine b (line.Analyse subject workers) u text
      → ((r : ReportState) × IsSoOf u subject r × (text ≡ report_line r.moment r.cert r.graph r.members))
      ⊎ Refuses b u text
  pub certified : (b : CoreState) (subject : Subject) (u : CoreState) (text : List ℕ) → IsMade b
      → PrintsLine b (line.Look (Certificate subject)) u text
      → ((r : ReportState) × IsSoOf u subject r × (text ≡ file_text r.cert r.graph r.members r.moment))
      ⊎ Refuses b u text
  pub filed : (b : CoreState) (line : Line) (u : CoreState) (text : List ℕ) → IsMade b → PrintsLine b line u text
      → (r : ReportState) → Has u.reports r → IsTrueReport u.world.journal r
