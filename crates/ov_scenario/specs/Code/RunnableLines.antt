-- What the lines that are left of a file ask to run, as a function of what the reader keeps.
use Rattle.std.specs.Prelude.{◌≡◌, ℕ, zero, suc, Bool, true, false, List, [], ◌∷◌, ◌++◌, Option, Some, None, IsSome}
use Rattle.rand_core.specs.Stream.{Stream, next_u64}
use Rattle.rand_core.specs.Steps.{stream_of, steps_u64_low}
use Rattle.rand_pcg.specs.Pcg.{pcg64}
use Rattle.ov_words.specs.Stream.{words_per_event}
use Rattle.ov_scenario.specs.RunLines.{runs, IsLineOf}
use Rattle.ov_scenario.specs.Sections.{SectionLine, is_end, section_line}
use Rattle.ov_scenario.specs.Statements.{ToldLine, statement_of, workers_or_one}
use Rattle.ov_scenario.specs.declared.block_reading.BlockSoFar.{BlockSoFar}
use Rattle.ov_scenario.specs.declared.block_reading.Part.{Part}
use Rattle.ov_scenario.specs.declared.block_reading.Part.TheVariants as part
use Rattle.ov_scenario.specs.declared.words_from_seed.SeedWords.{SeedWords}
use Rattle.ov_scenario.specs.declared.scenario.Line.{Line}
use Rattle.ov_scenario.specs.declared.scenario.Line.TheVariants as line
use Rattle.ov_scenario.specs.declared.line_of_section.Deed.TheVariants as deed
use Rattle.ov_scenario.specs.declared.statement.Statement.{Statement}
use Rattle.ov_scenario.specs.declared.statement.Statement.TheVariants as says

-- what a generator of random words returns from now on
unfoldable pub stream_now : SeedWords → Stream
stream_now draws = stream_of (steps_u64_low pcg64) draws.generator

-- the next outputs of a generator with this stream, so many, each by one call of `next_u64`, and its stream after these
-- calls
unfoldable pub outputs : ℕ → Stream → List ℕ × Stream
outputs zero stream = ([], stream)
outputs (suc n) stream =
    ((next_u64 stream).0 ∷ (outputs n (next_u64 stream).1).0, (outputs n (next_u64 stream).1).1)

-- the random words of the next event
abbrev pub next_words : Stream → List ℕ
next_words stream = (outputs words_per_event stream).0

-- what the generator returns after these
abbrev pub later_words : Stream → Stream
later_words stream = (outputs words_per_event stream).1

-- an event gets these words: those that were given, or else the next of the generator
abbrev pub AreEventWords : Stream → Option (List ℕ) → List ℕ → Stream → Type 0
AreEventWords before None words after = outputs words_per_event before ≡ (words, after)
AreEventWords before (Some given) words after = (words ≡ given) × (after ≡ before)

unfoldable mutual
  -- the lines that lines which say this ask for, with random words from a generator with this stream
  pub to_run : Stream → List ToldLine → List Line
  to_run stream [] = []
  to_run stream ((before, Some (says.Words words)) ∷ (own, Some (says.Event event)) ∷ more) =
      line.Event event words ∷ to_run stream more
  to_run stream ((own, Some (says.Event event)) ∷ more) =
      line.Event event (next_words stream) ∷ to_run (later_words stream) more
  to_run stream ((own, Some (says.Look look)) ∷ more) = line.Look look ∷ to_run stream more
  to_run stream ((own, Some (says.Analyse subject workers)) ∷ more) =
      line.Analyse subject (workers_or_one workers) ∷ to_run stream more
  to_run stream ((own, Some says.Together) ∷ more) = block_to_run stream [] [] more
  to_run stream (other ∷ more) = to_run stream more

  -- the same of lines in a block, which has these sections so far, and then one with these lines so far
  pub block_to_run : Stream → List (List SectionLine) → List SectionLine → List ToldLine → List Line
  block_to_run stream sections held [] = line.Together (sections ++ held ∷ []) ∷ []
  block_to_run stream sections held ((own, Some says.End) ∷ more) =
      line.Together (sections ++ held ∷ []) ∷ to_run stream more
  block_to_run stream sections held ((own, Some says.Also) ∷ more) =
      block_to_run stream (sections ++ held ∷ []) [] more
  block_to_run stream sections held ((before, Some (says.Words words)) ∷ (own, Some (says.Event event)) ∷ more) =
      block_to_run stream sections (held ++ section_line own (deed.Event event words) ∷ []) more
  block_to_run stream sections held ((own, Some (says.Event event)) ∷ more) =
      block_to_run (later_words stream) sections
      (held ++ section_line own (deed.Event event (next_words stream)) ∷ []) more
  block_to_run stream sections held ((own, Some (says.Analyse subject workers)) ∷ more) =
      block_to_run stream sections (held ++ section_line own (deed.Analyse subject.moment) ∷ []) more
  block_to_run stream sections held (other ∷ more) = block_to_run stream sections held more

-- each of these lines of a file can be read
unfoldable pub AreReadable : List (ℕ × List ℕ) → Type 0
AreReadable [] = Unit {0}
AreReadable (line ∷ more) = IsSome (statement_of line.1) × AreReadable more

-- random words that wait for an event, as a line that gave them
abbrev pub waiting : Option (List ℕ) → List ToldLine
waiting None = []
waiting (Some words) = ((0, []), Some (says.Words words)) ∷ []

-- of a line that says this, and begins no block, no line to run came, or this one: with what the lines after it ask
-- for, that is what it and they ask for. Random words that wait count as the line that gave them
abbrev pub TakesLine : Stream → Option (List ℕ) → Option Statement → Option Line → Stream → Option (List ℕ) → Type 0
TakesLine before given says None after left =
    (after ≡ before) × (runs says ≡ false)
    × ((own : ℕ × List ℕ) (more : List ToldLine)
    → to_run before (waiting given ++ (own, says) ∷ more) ≡ to_run before (waiting left ++ more))
TakesLine before given says (Some asked) after left =
    IsLineOf says asked × (runs says ≡ true)
    × ((own : ℕ × List ℕ) (more : List ToldLine)
    → to_run before (waiting given ++ (own, says) ∷ more) ≡ asked ∷ to_run after more)

-- of a line in a block that says this, this part came: with what the lines after it ask for, that is what it and they
-- ask for, whatever the block has so far
abbrev pub TakesPart : Stream → Option (List ℕ) → Option Statement → Part → Stream → Option (List ℕ) → Type 0
TakesPart before given says part.End after left =
    (is_end says ≡ true)
    × ((sections : List (List SectionLine)) (held : List SectionLine) (own : ℕ × List ℕ)
    (more : List ToldLine)
    → block_to_run before sections held (waiting given ++ (own, says) ∷ more)
    ≡ line.Together (sections ++ held ∷ []) ∷ to_run after more)
TakesPart before given says part.Section after left =
    (is_end says ≡ false)
    × ((sections : List (List SectionLine)) (held : List SectionLine) (own : ℕ × List ℕ)
    (more : List ToldLine)
    → block_to_run before sections held (waiting given ++ (own, says) ∷ more)
    ≡ block_to_run after (sections ++ held ∷ []) [] (waiting left ++ more))
TakesPart before given says part.Nothing after left =
    (is_end says ≡ false)
    × ((sections : List (List SectionLine)) (held : List SectionLine) (own : ℕ × List ℕ)
    (more : List ToldLine)
    → block_to_run before sections held (waiting given ++ (own, says) ∷ more)
    ≡ block_to_run after sections held (waiting left ++ more))
TakesPart before given says (part.Deed deed) after left =
    (is_end says ≡ false)
    × ((sections : List (List SectionLine)) (held : List SectionLine) (own : ℕ × List ℕ)
    (more : List ToldLine)
    → block_to_run before sections held (waiting given ++ (own, says) ∷ more)
    ≡ block_to_run after sections (held ++ section_line own deed ∷ []) (waiting left ++ more))

-- a block took in this line of a file, which ends it or does not: with what the lines after it ask for, that is what it
-- and they ask for
abbrev pub TakesIn : Stream → BlockSoFar → ℕ × List ℕ → Bool → Stream → BlockSoFar → Type 0
TakesIn before old own true after new =
    (is_end (statement_of own.1) ≡ true)
    × ((more : List ToldLine)
    → block_to_run before old.ended.items old.held.items (waiting old.given ++ (own, statement_of own.1) ∷ more)
    ≡ line.Together new.ended.items ∷ to_run after more)
TakesIn before old own false after new =
    (is_end (statement_of own.1) ≡ false)
    × ((more : List ToldLine)
    → block_to_run before old.ended.items old.held.items (waiting old.given ++ (own, statement_of own.1) ∷ more)
    ≡ block_to_run after new.ended.items new.held.items (waiting new.given ++ more))
