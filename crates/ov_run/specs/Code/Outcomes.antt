-- What became of a line that ran, what is still to be written of it, and whether it ends a strict run. b is the core
-- before, and u the core after.
use Rattle.std.specs.Prelude.{◌≡◌, ◌+◌, ℕ, Bool, true, false, List, [], ◌∷◌, Option, Some, None, Result, IfOk, OnOk}
use Rattle.std.specs.Prelude.{IfErr, OnErr, IsErrOf, length}
use Rattle.std.specs.Io.KnownBytes.{Appends}
use Rattle.ov_io.specs.Device.{SinkState}
use Rattle.ov_snap.specs.CoreState.{CoreState}
use Rattle.ov_scenario.specs.declared.scenario.Line.{Line}
use Rattle.ov_scenario.specs.declared.scenario.Line.TheVariants as line
use Rattle.ov_run_meaning.specs.Accepting.{RefusesAnalysis, RefusesEvent, RefusesLook}
use Rattle.ov_run_meaning.specs.Ending.{BeginsLines, EndsLine, EndsLines}
use Rattle.ov_run_meaning.specs.Faults.{write_faults}
use Rattle.ov_run_meaning.specs.Printed.{refused_line, together_line}
use Rattle.ov_run_meaning.specs.Refusals.{number_of}
use Rattle.ov_run_meaning.specs.Running.{PrintsLines}
use Rattle.ov_run_meaning.specs.Sections.{RunTogether, ToldLine, accepted_in, refused_in}
use Rattle.ov_run_meaning.specs.Strict.{AcceptsLine, AcceptsLines, StopsLines}
use Rattle.ov_run_meaning.specs.Writing.{IsOfWriting, Writes, WritesOutcome, WritesPrefix}
use Rattle.ov_run.specs.Code.Jobs.{joined}
use Rattle.ov_run.specs.Code.Failing.{IsOfRunning}
use Rattle.ov_run.specs.declared.line_outcome.BlockTold.{BlockTold}
use Rattle.ov_run.specs.declared.line_outcome.Came.{Came}
use Rattle.ov_run.specs.declared.line_outcome.Came.TheVariants.{Alone, Block}
use Rattle.ov_run_meaning.specs.declared.line_run_outcome.LineOutcome.{LineOutcome}
use Rattle.ov_run_meaning.specs.declared.line_run_outcome.LineOutcome.TheVariants.{Accepted, Refused}
use Rattle.ov_run_meaning.specs.declared.refusal.Refusal.{Refusal}
use Rattle.ov_run_meaning.specs.declared.run_fault.RunFault.{RunFault}
use Rattle.ov_run_meaning.specs.declared.run_fault.RunFault.TheVariants as fault
use Rattle.ov_run_meaning.specs.declared.strictness.Strictness.{Strictness}
use Rattle.ov_run_meaning.specs.declared.strictness.Strictness.TheVariants.{Lenient, Strict}

-- ---- one line

-- whether a line is an event
abbrev pub is_event_line : Line → Bool
is_event_line (line.Event event words) = true
is_event_line other = false

-- a line that is no block is refused for this reason
abbrev pub RefusesAlone : CoreState → Line → Refusal → Type 0
RefusesAlone b (line.Event event words) refusal = RefusesEvent b event refusal
RefusesAlone b (line.Look look) refusal = RefusesLook b look refusal
RefusesAlone b (line.Analyse subject workers) refusal = RefusesAnalysis b subject refusal
RefusesAlone b (line.Together sections) refusal = ⊥

-- the line is a block, whose sections ran, and this is told of their lines
abbrev pub RanAsBlock : CoreState → Line → CoreState → BlockTold → Type 0
RanAsBlock b (line.Together sections) u block =
    RunTogether b sections u (joined block.told) × (block.sections ≡ length sections)
    × (block.accepted ≡ accepted_in (joined block.told))
    × (block.refused ≡ refused_in (joined block.told))
RanAsBlock b other u block = ⊥

-- this became of a line: it is no block, and was accepted, or refused without a change; or it is a block, and the
-- writer took nothing
abbrev pub LineCame : CoreState → Line → CoreState → Option (List ℕ) → Option (List ℕ) → Came → Type 0
LineCame b line u before after (Alone outcome) =
    WritesOutcome (AcceptsLine b line u) (λ refusal. RefusesAlone b line refusal × (u ≡ b)) before after outcome
LineCame b line u before after (Block block) = RanAsBlock b line u block × Appends before after []

-- one line ran from the core b on, or ended the run, from a sink before it to what it is after it; of what is returned
-- this became of the line, and this is the core after it
pub record LineRan {A W : Type 0} (contents : W → Option (List ℕ)) (b : CoreState) (line : Line) (came_of : A → Came)
    (core_of : A → CoreState) (before after : SinkState W) (result : Result A RunFault) : Type 0 where
  -- without fault, this became of the line
  pub came : IfOk result (λ a. LineCame b line (core_of a) (contents before.writer) (contents after.writer) (came_of a))
  -- after a fault, the writer took a prefix of what the line prints up to some point, or of what it prints if it is
  -- accepted
  pub begun : OnErr result
      (WritesPrefix (BeginsLines Strict b (line ∷ [])) (contents before.writer) (contents after.writer))
  -- after OutOfMemory it took all that the line prints up to the point at which the run ends
  pub memory : IsErrOf result fault.OutOfMemory
      → Writes (EndsLine b line) (contents before.writer) (contents after.writer)
  -- after Write the sink counts one more fault, otherwise the same number as before
  pub faults : after.faults ≡ before.faults + write_faults result
  -- each fault is of the writer or of memory
  pub kind : IfErr result IsOfWriting

-- what is still to be written of a line that ran: the number of its refusal, or the line of a block
abbrev pub rest_of : Came → List ℕ
rest_of (Alone Accepted) = []
rest_of (Alone (Refused refusal)) = refused_line (number_of refusal)
rest_of (Block block) = together_line block.sections block.accepted block.refused

-- it was written, unless a strict run ends at a refused line of it; then the writer took nothing
abbrev pub WritesRest : Option (List ℕ) → Option (List ℕ) → Came → Option (ℕ × Refusal) → Type 0
WritesRest before after came None = Appends before after (rest_of came)
WritesRest before after came (Some stop) = Appends before after []

-- ---- the first line that was refused

-- of what came of a line, its refusal, with this number of the line
abbrev pub refusal_at : ℕ → LineOutcome → Option (ℕ × Refusal)
refusal_at n Accepted = None
refusal_at n (Refused refusal) = Some (n, refusal)

-- this, or if it is nothing that
abbrev pub or_else : Option (ℕ × Refusal) → Option (ℕ × Refusal) → Option (ℕ × Refusal)
or_else (Some first) later = Some first
or_else None later = later

-- of these lines of sections, the number of the first that was refused, and why
abbrev pub first_refused : List ToldLine → Option (ℕ × Refusal)
first_refused [] = None
first_refused (told ∷ others) = or_else (refusal_at told.number told.outcome) (first_refused others)

-- of a line that ran, with this number, or else of the lines of its sections, the first that was refused
abbrev pub refused_of : ℕ → Came → Option (ℕ × Refusal)
refused_of n (Alone outcome) = refusal_at n outcome
refused_of n (Block block) = first_refused (joined block.told)

-- the refused line at which a run ends, if it ends at one
abbrev pub stop_of : Strictness → ℕ → Came → Option (ℕ × Refusal)
stop_of Lenient n came = None
stop_of Strict n came = refused_of n came

-- ---- all lines

-- these lines ran from the core b on, all of them or up to a fault, from a sink before them to what it is after them.
-- These lines of a file ask for them
pub record RanLines {A W : Type 0} (strictness : Strictness) (contents : W → Option (List ℕ)) (b : CoreState)
    (lines : List Line) (file_lines : List (ℕ × List ℕ)) (before after : SinkState W) (result : Result A RunFault)
    : Type 0 where
  -- without fault, the writer took what the lines print
  pub prints : OnOk result
      ((u : CoreState) × Writes (PrintsLines b lines u) (contents before.writer) (contents after.writer))
  -- and if the run is strict, each line was accepted
  pub accepts : strictness ≡ Strict → OnOk result
      ((u : CoreState) × Writes (AcceptsLines b lines u) (contents before.writer) (contents after.writer))
  -- however it ends, the writer took a prefix of what the lines print up to some point
  pub begun : WritesPrefix (BeginsLines strictness b lines) (contents before.writer) (contents after.writer)
  -- after OutOfMemory it took all that the lines print up to the point at which the run ends
  pub memory : IsErrOf result fault.OutOfMemory
      → Writes (EndsLines strictness b lines) (contents before.writer) (contents after.writer)
  -- after Refused the run is strict, and the writer took all that the lines print before the one that was refused
  pub stops : (n : ℕ) (refusal : Refusal) → IsErrOf result (fault.Refused n refusal)
      → (strictness ≡ Strict)
      × Writes (StopsLines b lines file_lines n refusal) (contents before.writer) (contents after.writer)
  -- after Write the sink counts one more fault, otherwise the same number as before
  pub faults : after.faults ≡ before.faults + write_faults result
  -- each fault is of the writer, of memory or of a refused line
  pub kind : IfErr result IsOfRunning
