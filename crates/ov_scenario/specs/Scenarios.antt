-- What a scenario file says, and the first fault of a file that says no scenario. Both are facts of its lines that are
-- not skipped, each with those before it and those after it. The form of the file is chosen here.
use Rattle.std.specs.Prelude.{◌≡◌, ◌⊎◌, ℕ, ◌-◌, ◌^◌, min, Bool, true, false, List, [], ◌∷◌, ◌++◌, length, map, take}
use Rattle.std.specs.Prelude.{if◌then◌else◌, Option, Some, None}
use Rattle.rand_core.specs.Stream.{Stream}
use Rattle.ov_ids.specs.ParamsState.{ParamsState, AreWithinLimits}
use Rattle.ov_ids.specs.Members.{Has}
use Rattle.ov_ids.specs.declared.refill_rule.Refill.{Refill}
use Rattle.ov_ids.specs.declared.refill_rule.Refill.TheVariants.{Never}
use Rattle.ov_ids.specs.declared.world_scale.Scale.{Scale}
use Rattle.ov_ids.specs.declared.world_scale.Scale.TheVariants.{Profile}
use Rattle.ov_net.specs.declared.event.Event.{Event}
use Rattle.ov_scenario.specs.Draws.{AreDraws, seeded}
use Rattle.ov_lines.specs.Lines.{kept_lines, long_bits}
use Rattle.ov_lines.specs.declared.unexpected_word.Unread.{Unread}
use Rattle.ov_scenario.specs.RunLines.{drivers_for}
use Rattle.ov_scenario.specs.Sections.{SectionLine, IsPlain, has_end, most_sections, open_after, section_line}
use Rattle.ov_scenario.specs.Statements.{Stated, ToldLine, statement_of, told, workers_or_one}
use Rattle.ov_scenario.specs.declared.fault_listing.FaultyLines.{FaultyLines}
use Rattle.ov_scenario.specs.declared.line_judging.Before.{Before}
use Rattle.ov_scenario.specs.declared.open_block.OpenBlock.{OpenBlock}
use Rattle.ov_scenario.specs.declared.scenario.Line.{Line}
use Rattle.ov_scenario.specs.declared.scenario.Line.TheVariants as line
use Rattle.ov_scenario.specs.declared.scenario.Scenario.{Scenario}
use Rattle.ov_scenario.specs.declared.scenario_fault.FaultyLine.{FaultyLine}
use Rattle.ov_scenario.specs.declared.scenario_fault.LineFault.{LineFault}
use Rattle.ov_scenario.specs.declared.scenario_fault.LineFault.TheVariants as fault
use Rattle.ov_scenario.specs.declared.scenario_fault.ScenarioFault.{ScenarioFault}
use Rattle.ov_scenario.specs.declared.scenario_fault.ScenarioFault.TheVariants as refused
use Rattle.ov_scenario.specs.declared.scenario_fault.Setting.{Setting}
use Rattle.ov_scenario.specs.declared.scenario_fault.Setting.TheVariants as sets
use Rattle.ov_scenario.specs.declared.line_of_section.Deed.TheVariants as deed
use Rattle.ov_scenario.specs.declared.statement.Statement.{Statement}
use Rattle.ov_scenario.specs.declared.statement.Statement.TheVariants as says

-- a line of this number with these bytes, and what it says
abbrev pub stated_at : ℕ × List ℕ → Stated
stated_at line = record { number = line.0; says = statement_of line.1 }

-- the lines of a file that are not skipped, in order: the number of each, and what it says, or None if it can't be read
unfoldable pub stated_lines : List ℕ → List Stated
stated_lines bytes = map stated_at (kept_lines bytes)

-- one of these lines is of this kind
abbrev pub HasKind : {A : Type 0} → (A → Statement) → List Stated → Type 0
HasKind {A} kind lines = (line : Stated) × (x : A) × Has lines line × (line.says ≡ Some (kind x))

-- a line that says this is an event
abbrev pub is_event : Option Statement → Bool
is_event (Some (says.Event event)) = true
is_event other = false

-- a line that says this gives parameters
abbrev pub is_params : Option Statement → Bool
is_params (Some (says.Params numbers)) = true
is_params other = false

-- a line that says this gives a seed
abbrev pub is_seed : Option Statement → Bool
is_seed (Some (says.Seed seed)) = true
is_seed other = false

-- a line that says this gives a rule at DISCONNECT
abbrev pub is_refill : Option Statement → Bool
is_refill (Some (says.Refill rule)) = true
is_refill other = false

-- a line that says this gives a scale
abbrev pub is_scale : Option Statement → Bool
is_scale (Some (says.Scale scale)) = true
is_scale other = false

-- the number of the first of these lines that is of a kind
abbrev pub first_of : (Option Statement → Bool) → List Stated → Option ℕ
first_of is_kind [] = None
first_of is_kind (line ∷ more) = if is_kind line.says then Some line.number else first_of is_kind more

-- the number of the first of these lines
abbrev pub first_number : List Stated → Option ℕ
first_number [] = None
first_number (line ∷ more) = Some line.number

-- the first of these lines is an event
abbrev pub BeginWithEvent : List Stated → Type 0
BeginWithEvent [] = ⊥
BeginWithEvent (line ∷ more) = (event : Event) × (line.says ≡ Some (says.Event event))

-- the parameters if no line gives any: those of the experiments of HyParView (Leitão, Pereira, Rodrigues, DSN 2007), a
-- time to live of a shuffle that is chosen here, and the profile's rule at DISCONNECT and scale
abbrev pub default_params : ParamsState
default_params = record {
  active = 5;
  passive = 30;
  arwl = 6;
  prwl = 3;
  ka = 3;
  kp = 4;
  shuffle_ttl = 4;
  refill = Never;
  scale = Profile;
}

-- these are parameters with these numbers, in the order of the line, and they are within their limits. The line leaves
-- the rule at DISCONNECT and the scale open, which lines of their own give
abbrev pub AreParams : List ℕ → ParamsState → Type 0
AreParams numbers p =
    (numbers ≡ p.active ∷ p.passive ∷ p.arwl ∷ p.prwl ∷ p.ka ∷ p.kp ∷ p.shuffle_ttl ∷ []) × AreWithinLimits p

-- these numbers are those of parameters within their limits
abbrev pub AreWithin : List ℕ → Type 0
AreWithin numbers = (p : ParamsState) × AreParams numbers p

-- what matters of the lines before a line: the numbers of the first event, the first parameters, the first seed, the
-- first rule at DISCONNECT and the first scale, and the block that is open
abbrev pub before_of : List Stated → Before
before_of lines = record {
  event = first_of is_event lines;
  params = first_of is_params lines;
  seed = first_of is_seed lines;
  refill = first_of is_refill lines;
  scale = first_of is_scale lines;
  block = open_after lines;
}

-- a line sets something for the whole run too late, and this is its fault: it comes after an event, or else after a
-- line that sets the same. The first event and the first such line have these numbers, if there are any
abbrev pub IsTooLate : Setting → Option ℕ → Option ℕ → LineFault → Type 0
IsTooLate setting (Some event) same f = f ≡ fault.BehindEvent setting event
IsTooLate setting None (Some line) f = f ≡ fault.SetBefore setting line
IsTooLate setting None None f = ⊥

-- random words are at fault, and this is their fault: the first of the lines after them is no event
abbrev pub IsNoEventNext : List Stated → LineFault → Type 0
IsNoEventNext after f = (¬ BeginWithEvent after) × (f ≡ fault.NoEventNext (first_number after))

-- a line that says this, and stands in no block, is at fault, and this is its fault. These lines are before it, and
-- these after it
abbrev pub IsWrongOutside : Before → Statement → List Stated → LineFault → Type 0
-- random words that no event follows
IsWrongOutside before (says.Words words) after f = IsNoEventNext after f
-- a seed that comes too late
IsWrongOutside before (says.Seed seed) after f = IsTooLate sets.Seed before.event before.seed f
-- a rule at DISCONNECT that comes too late
IsWrongOutside before (says.Refill rule) after f = IsTooLate sets.Refill before.event before.refill f
-- a scale that comes too late
IsWrongOutside before (says.Scale scale) after f = IsTooLate sets.Scale before.event before.scale f
-- parameters that come too late, or else are out of their limits
IsWrongOutside before (says.Params numbers) after f =
    IsTooLate sets.Params before.event before.params f
    ⊎ ((before.event ≡ None) × (before.params ≡ None) × (¬ AreWithin numbers) × (f ≡ fault.OutOfLimits numbers))
-- an event, a look and an analysis are never at fault
IsWrongOutside before (says.Event event) after f = ⊥
IsWrongOutside before (says.Look look) after f = ⊥
IsWrongOutside before (says.Analyse subject workers) after f = ⊥
-- a block that no line ends
IsWrongOutside before says.Together after f = (has_end after ≡ false) × (f ≡ fault.NoEnd)
-- a further section of no block, and an end of none
IsWrongOutside before says.Also after f = f ≡ fault.NotInSection
IsWrongOutside before says.End after f = f ≡ fault.NotInSection

-- a line that says this, and stands in this block, is at fault, and this is its fault. These lines are after it
abbrev pub IsWrongInside : OpenBlock → Statement → List Stated → LineFault → Type 0
-- random words that no event follows
IsWrongInside block (says.Words words) after f = IsNoEventNext after f
-- an event is never at fault
IsWrongInside block (says.Event event) after f = ⊥
-- an analysis of a group, or by a named number of workers
IsWrongInside block (says.Analyse subject workers) after f =
    (¬ IsPlain subject workers) × (f ≡ fault.NotHeld block.together)
-- a section of a block that has as many as it may have
IsWrongInside block says.Also after f =
    (block.sections ≡ most_sections) × (f ≡ fault.TooManySections block.together)
-- the end of the block is never at fault
IsWrongInside block says.End after f = ⊥
-- parameters, a seed, a rule at DISCONNECT, a scale, a look, and another block
IsWrongInside block (says.Params numbers) after f = f ≡ fault.NotHeld block.together
IsWrongInside block (says.Seed seed) after f = f ≡ fault.NotHeld block.together
IsWrongInside block (says.Refill rule) after f = f ≡ fault.NotHeld block.together
IsWrongInside block (says.Scale scale) after f = f ≡ fault.NotHeld block.together
IsWrongInside block (says.Look look) after f = f ≡ fault.NotHeld block.together
IsWrongInside block says.Together after f = f ≡ fault.NotHeld block.together

-- a line that says this is at fault, and this is its fault. It stands in this block, if in one. These lines are before
-- it, and these after it
abbrev pub IsWrongIn : Option OpenBlock → Before → Statement → List Stated → LineFault → Type 0
IsWrongIn None before said after f = IsWrongOutside before said after f
IsWrongIn (Some block) before said after f = IsWrongInside block said after f

-- a line that says this is at fault, and this is its fault. These lines are before it and after it
abbrev pub IsWrong : Before → Option Statement → List Stated → LineFault → Type 0
-- a line that can't be read; what is wanted, and where, is not said here
IsWrong before None after f = (unread : Unread) × (f ≡ fault.Unread unread)
IsWrong before (Some said) after f = IsWrongIn before.block before said after f

-- of these lines, which follow those before, these are at fault, in order: each line has no fault and is passed over,
-- or it is at fault and listed with its number and its fault
unfoldable pub AreFaulty : List Stated → List Stated → List FaultyLine → Type 0
AreFaulty before [] faulty = faulty ≡ []
AreFaulty before (line ∷ after) faulty =
    (((f : LineFault) → ¬ IsWrong (before_of before) line.says after f)
    × AreFaulty (before ++ line ∷ []) after faulty)
    ⊎ ((f : LineFault) × (later : List FaultyLine)
    × IsWrong (before_of before) line.says after f × (faulty ≡ record { line = line.number; fault = f } ∷ later)
    × AreFaulty (before ++ line ∷ []) after later)

-- these are the lines of a file that are at fault, in order
abbrev pub AreFaultyLines : List ℕ → List FaultyLine → Type 0
AreFaultyLines bytes faulty = AreFaulty [] (stated_lines bytes) faulty

-- the most lines that are counted: as many as a number of 64 bits can say, and more than a file in memory has
abbrev pub most_counted : ℕ
most_counted = 2 ^ long_bits - 1

-- of all these lines at fault the first are kept, in order, this many at most, and all are counted
abbrev pub AreFirstOf : ℕ → List FaultyLine → FaultyLines → Type 0
AreFirstOf most all faulty = (faulty.first.items ≡ take most all) × (faulty.count ≡ min (length all) most_counted)

-- of the lines of a file that are at fault the first are kept, in order, this many at most, and all are counted
abbrev pub AreFirstFaulty : List ℕ → ℕ → FaultyLines → Type 0
AreFirstFaulty bytes most faulty = (all : List FaultyLine) × AreFaultyLines bytes all × AreFirstOf most all faulty

-- no line is at fault
abbrev pub AreFaultless : List Stated → Type 0
AreFaultless lines = AreFaulty [] lines []

-- of these lines, which follow those before, this is the first that is at fault, with its fault: it is the first line,
-- or the first line has no fault and is passed over
unfoldable pub IsFirstAfter : List Stated → List Stated → FaultyLine → Type 0
IsFirstAfter before [] first = ⊥
IsFirstAfter before (line ∷ after) first =
    (IsWrong (before_of before) line.says after first.fault × (line.number ≡ first.line))
    ⊎ (((f : LineFault) → ¬ IsWrong (before_of before) line.says after f)
    × IsFirstAfter (before ++ line ∷ []) after first)

-- this is the first of these lines that is at fault
abbrev pub IsFirstFaulty : List Stated → FaultyLine → Type 0
IsFirstFaulty lines first = IsFirstAfter [] lines first

-- this is the first line of a file that is at fault, so that the file says no scenario
abbrev pub IsScenarioFault : List ℕ → FaultyLine → Type 0
IsScenarioFault bytes first = IsFirstFaulty (stated_lines bytes) first

-- the judging of these lines answers this fault: that of the first line at fault, or out of memory
abbrev pub IsFirstFault : List Stated → ScenarioFault → Type 0
IsFirstFault lines (refused.Line first) = IsFirstFaulty lines first
IsFirstFault lines refused.OutOfMemory = Unit {0}

-- the reading of a file answers this fault: that of its first line at fault, or out of memory
abbrev pub IsReadingFault : List ℕ → ScenarioFault → Type 0
IsReadingFault bytes fault = IsFirstFault (stated_lines bytes) fault

-- these are the parameters of these lines, whatever the rule at DISCONNECT and the scale: those that one of them gives,
-- or the default ones if none gives any
unfoldable pub AreParamsOf : List Stated → ParamsState → Type 0
AreParamsOf lines p =
    ((line : Stated) × (numbers : List ℕ) × Has lines line × (line.says ≡ Some (says.Params numbers))
    × AreParams numbers p)
    ⊎ ((¬ HasKind says.Params lines) × (p ≡ record default_params { refill = p.refill; scale = p.scale }))

-- a line of this kind sets this for the whole run: it is what one of these lines gives, or the usual one if none of
-- them is of this kind
unfoldable pub IsSetBy : {A : Type 0} → (A → Statement) → A → List Stated → A → Type 0
IsSetBy {A} kind usual lines x =
    ((line : Stated) × Has lines line × (line.says ≡ Some (kind x)))
    ⊎ ((¬ HasKind kind lines) × (x ≡ usual))

-- this is the seed of these lines: the one that one of them gives, or 0 if none does
abbrev pub IsSeedOf : List Stated → ℕ → Type 0
IsSeedOf lines seed = IsSetBy says.Seed 0 lines seed

-- this is the rule at DISCONNECT of these lines: the one that one of them gives, or the profile's if none does
abbrev pub IsRefillOf : List Stated → Refill → Type 0
IsRefillOf lines rule = IsSetBy says.Refill Never lines rule

-- this is the scale of these lines: the one that one of them gives, or the profile's if none does
abbrev pub IsScaleOf : List Stated → Scale → Type 0
IsScaleOf lines scale = IsSetBy says.Scale Profile lines scale

unfoldable mutual
  -- lines that say this run as these lines: the events, the looks, the analyses and the blocks of sections in order,
  -- each event with the random words that come right before it, or else with the next of those that were drawn. All
  -- that were drawn are used
  pub RunAs : List ToldLine → List (List ℕ) → List Line → Type 0
  RunAs [] drawn lines = (drawn ≡ []) × (lines ≡ [])
  RunAs ((before, Some (says.Words words)) ∷ (own, Some (says.Event event)) ∷ more) drawn lines =
      (later : List Line) × (lines ≡ line.Event event words ∷ later) × RunAs more drawn later
  RunAs ((own, Some (says.Event event)) ∷ more) drawn lines =
      (words : List ℕ) × (left : List (List ℕ)) × (later : List Line)
      × (drawn ≡ words ∷ left) × (lines ≡ line.Event event words ∷ later) × RunAs more left later
  RunAs ((own, Some (says.Look look)) ∷ more) drawn lines =
      (later : List Line) × (lines ≡ line.Look look ∷ later) × RunAs more drawn later
  RunAs ((own, Some (says.Analyse subject workers)) ∷ more) drawn lines =
      (later : List Line) × (lines ≡ line.Analyse subject (workers_or_one workers) ∷ later) × RunAs more drawn later
  RunAs ((own, Some says.Together) ∷ more) drawn lines = BlockRunsAs [] [] more drawn lines
  RunAs (other ∷ more) drawn lines = RunAs more drawn lines

  -- the same of lines in a block. It has these sections so far, and then one with these lines so far. If no line ends
  -- the block, it ends with the file; no file without a fault has such a block
  pub BlockRunsAs :
      List (List SectionLine) → List SectionLine → List ToldLine → List (List ℕ) → List Line → Type 0
  BlockRunsAs sections held [] drawn lines = (drawn ≡ []) × (lines ≡ line.Together (sections ++ held ∷ []) ∷ [])
  BlockRunsAs sections held ((own, Some says.End) ∷ more) drawn lines =
      (later : List Line) × (lines ≡ line.Together (sections ++ held ∷ []) ∷ later) × RunAs more drawn later
  BlockRunsAs sections held ((own, Some says.Also) ∷ more) drawn lines =
      BlockRunsAs (sections ++ held ∷ []) [] more drawn lines
  BlockRunsAs sections held ((before, Some (says.Words words)) ∷ (own, Some (says.Event event)) ∷ more) drawn lines =
      BlockRunsAs sections (held ++ section_line own (deed.Event event words) ∷ []) more drawn lines
  BlockRunsAs sections held ((own, Some (says.Event event)) ∷ more) drawn lines =
      (words : List ℕ) × (left : List (List ℕ)) × (drawn ≡ words ∷ left)
      × BlockRunsAs sections (held ++ section_line own (deed.Event event words) ∷ []) more left lines
  BlockRunsAs sections held ((own, Some (says.Analyse subject workers)) ∷ more) drawn lines =
      BlockRunsAs sections (held ++ section_line own (deed.Analyse subject.moment) ∷ []) more drawn lines
  BlockRunsAs sections held (other ∷ more) drawn lines = BlockRunsAs sections held more drawn lines

-- these lines of a file, each with its number, run as these lines to run, with random words that are drawn from the
-- generator of the seed
abbrev pub AreToRun : List (ℕ × List ℕ) → ℕ → List Line → Type 0
AreToRun lines seed to_run =
    (drawn : List (List ℕ)) × (left : Stream) × AreDraws (seeded seed) drawn left × RunAs (told lines) drawn to_run

-- the bytes of a file say this scenario: no line is at fault, the parameters with their rule at DISCONNECT and their
-- scale, and the seed, are those of the lines, the lines ask for those to run, and the drivers are as many as these
-- need
pub record IsScenario (bytes : List ℕ) (s : Scenario) : Type 0 where
  pub faultless : AreFaultless (stated_lines bytes)
  pub params : AreParamsOf (stated_lines bytes) s.params
  pub refill : IsRefillOf (stated_lines bytes) s.params.refill
  pub scale : IsScaleOf (stated_lines bytes) s.params.scale
  pub seed : IsSeedOf (stated_lines bytes) s.seed
  pub lines : AreToRun (kept_lines bytes) s.seed s.lines.items
  pub drivers : s.drivers ≡ drivers_for s.lines.items

-- the number is that of the first of these lines
abbrev pub IsFirstOf : ℕ → List FaultyLine → Type 0
IsFirstOf n [] = ⊥
IsFirstOf n (first ∷ later) = first.line ≡ n

-- The line whose fault a file has is the first of its lines at fault, and a file with a fault says no scenario.
pub record FirstLineHasTheFault : Type 0 where
  pub first : (bytes : List ℕ) (faulty : List FaultyLine) (f : FaultyLine) → AreFaultyLines bytes faulty
      → IsScenarioFault bytes f → IsFirstOf f.line faulty
  pub none : (bytes : List ℕ) (s : Scenario) (f : FaultyLine) → IsScenario bytes s → IsScenarioFault bytes f → ⊥
