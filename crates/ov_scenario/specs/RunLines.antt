-- Which lines of a scenario file run, which of these need memory to be read, and what is still to run.
use Rattle.std.specs.Prelude.{◌≡◌, ℕ, max, Bool, true, false, List, [], ◌∷◌, length, Option, Some, None, IsSome}
use Rattle.std.specs.Prelude.{replicate, if◌then◌else◌}
use Rattle.std.specs.List.{filter}
use Rattle.ov_lines.specs.Lines.{kept_lines}
use Rattle.ov_net.specs.declared.event.Event.{Event}
use Rattle.ov_net.specs.declared.event.Event.TheVariants as event
use Rattle.ov_scenario.specs.Sections.{is_together, is_end}
use Rattle.ov_scenario.specs.Statements.{statement_of, workers_or_one}
use Rattle.ov_words.specs.Stream.{words_per_event}
use Rattle.ov_scenario.specs.declared.scenario.Line.{Line}
use Rattle.ov_scenario.specs.declared.scenario.Line.TheVariants as line
use Rattle.ov_scenario.specs.declared.scenario.Look.{Look}
use Rattle.ov_scenario.specs.declared.scenario.Look.TheVariants as look
use Rattle.ov_scenario.specs.declared.scenario.Subject.{Subject}
use Rattle.ov_scenario.specs.declared.statement.Statement.{Statement}
use Rattle.ov_scenario.specs.declared.statement.Statement.TheVariants as says

-- a line that says this runs: it is an event, a look or an analysis, or begins a block of sections
abbrev pub runs : Option Statement → Bool
runs None = false
runs (Some (says.Params numbers)) = false
runs (Some (says.Seed seed)) = false
runs (Some (says.Refill rule)) = false
runs (Some (says.Scale scale)) = false
runs (Some (says.Words words)) = false
runs (Some (says.Event event)) = true
runs (Some (says.Look look)) = true
runs (Some (says.Analyse subject workers)) = true
runs (Some says.Together) = true
runs (Some says.Also) = false
runs (Some says.End) = false

-- of these lines, each with its number, those that stand in no block, and those that begin one. Before the first of
-- them a block is open, or none is
unfoldable pub outside_blocks : Bool → List (ℕ × List ℕ) → List (ℕ × List ℕ)
outside_blocks is_open [] = []
outside_blocks false (line ∷ more) = line ∷ outside_blocks (is_together (statement_of line.1)) more
outside_blocks true (line ∷ more) =
    if is_end (statement_of line.1) then outside_blocks false more else outside_blocks true more

-- of these lines, each with its number, those that run, in order. A block of sections runs as its first line
unfoldable pub those_that_run : List (ℕ × List ℕ) → List (ℕ × List ℕ)
those_that_run lines = filter (λ line. runs (statement_of line.1)) (outside_blocks false lines)

-- the lines of a file that run, in order, each with its number
abbrev pub lines_that_run : List ℕ → List (ℕ × List ℕ)
lines_that_run bytes = those_that_run (kept_lines bytes)

-- this is the line to run of a line that says this: this event, whatever its random words, this look, this analysis, or
-- a block, whatever its sections
abbrev pub IsLineOf : Option Statement → Line → Type 0
IsLineOf (Some (says.Event event)) (line.Event same words) = same ≡ event
IsLineOf (Some (says.Look look)) (line.Look same) = same ≡ look
IsLineOf (Some (says.Analyse subject workers)) (line.Analyse same number) =
    (same ≡ subject) × (number ≡ workers_or_one workers)
IsLineOf (Some says.Together) (line.Together sections) = Unit {0}
IsLineOf other own = ⊥

-- if this line is an event, its random words are zeros
abbrev pub HasZeros : Line → Type 0
HasZeros (line.Event event words) = words ≡ replicate words_per_event 0
HasZeros other = Unit {0}

-- ---- memory

-- this event has a payload: it is a broadcast
abbrev pub HasPayload : Event → Type 0
HasPayload (event.Broadcast node payload) = Unit {0}
HasPayload other = ⊥

-- this subject has the ids of a group
abbrev pub HasIds : Subject → Type 0
HasIds subject = IsSome subject.group

-- this look has the ids of a group: it is a certificate of one
abbrev pub LookHasIds : Look → Type 0
LookHasIds (look.Certificate subject) = HasIds subject
LookHasIds other = ⊥

-- memory is needed to read a line that says this: it has a payload or the ids of a group
abbrev pub ReadingNeedsMemory : Statement → Type 0
ReadingNeedsMemory (says.Event event) = HasPayload event
ReadingNeedsMemory (says.Look look) = LookHasIds look
ReadingNeedsMemory (says.Analyse subject workers) = HasIds subject
ReadingNeedsMemory other = ⊥

-- memory is needed to read the line of a file that runs as this line: it has a payload or the ids of a group, or it
-- begins a block, whose lines are read with it
abbrev pub LineNeedsMemory : Line → Type 0
LineNeedsMemory (line.Event event words) = HasPayload event
LineNeedsMemory (line.Look look) = LookHasIds look
LineNeedsMemory (line.Analyse subject workers) = HasIds subject
LineNeedsMemory (line.Together sections) = Unit {0}

-- memory is needed to read the line of a file that runs as the first of these lines
abbrev pub FirstNeedsMemory : List Line → Type 0
FirstNeedsMemory [] = ⊥
FirstNeedsMemory (line ∷ more) = LineNeedsMemory line

-- ---- drivers

-- how many drivers these lines need: as many as the largest block has sections, and one if there is no block
unfoldable pub drivers_for : List Line → ℕ
drivers_for [] = 1
drivers_for (line.Together sections ∷ more) = max (length sections) (drivers_for more)
drivers_for (other ∷ more) = drivers_for more

-- ---- what is still to run

-- what is still to run: the lines, in order, and for each the line of the file that runs as this line, with its number
pub record RunLines : Type 0 where
  pub items : List Line
  pub file_lines : List (ℕ × List ℕ)
