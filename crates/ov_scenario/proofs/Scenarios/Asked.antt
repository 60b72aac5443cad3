-- The lines that the lines of a file ask for, one after the other.
use Rattle.std.proofs.Common.{◌≡◌, ◌∙◌, ℕ, true, false, if◌then◌else◌, List, [], ◌∷◌, ◌++◌}
use Rattle.std.proofs.Common.{Option, Some, None, refl, ap, sym, subst}
use Rattle.std.specs.List.{filter}
use Rattle.rand_core.specs.Stream.{Stream}
use Rattle.ov_net.specs.declared.event.Event.{Event}
use Rattle.ov_words.specs.Stream.{words_per_event}
use Rattle.ov_scenario.specs.Draws.{AreDraws, seeded}
use Rattle.ov_scenario.specs.RunLines.{IsLineOf, outside_blocks, runs, those_that_run}
use Rattle.ov_scenario.specs.Scenarios.{AreToRun, BlockRunsAs, RunAs}
use Rattle.ov_scenario.specs.Sections.{SectionLine, is_together, section_line}
use Rattle.ov_scenario.specs.Statements.{ToldLine, statement_of, told, workers_or_one}
use Rattle.ov_scenario.specs.Code.RunnableLines.{AreEventWords, TakesLine, block_to_run, later_words, next_words}
use Rattle.ov_scenario.specs.Code.RunnableLines.{to_run, waiting}
use Rattle.ov_scenario.specs.declared.scenario.Line.{Line}
use Rattle.ov_scenario.specs.declared.scenario.Line.TheVariants as line
use Rattle.ov_scenario.specs.declared.scenario.Look.{Look}
use Rattle.ov_scenario.specs.declared.scenario.Subject.{Subject}
use Rattle.ov_scenario.specs.declared.line_of_section.Deed.TheVariants as deed
use Rattle.ov_scenario.specs.declared.statement.Statement.{Statement}
use Rattle.ov_scenario.specs.declared.statement.Statement.TheVariants as says
use Rattle.ov_scenario.proofs.Scenarios.Outputs.{are_outputs, count_outputs}

-- ---- all lines

mutual
  unfolding RunAs to_run

  -- lines ask for those that the function finds, with random words from the generator
  asked :
      (stream : Stream) (lines : List ToldLine)
      → (drawn : List (List ℕ)) × (left : Stream) × AreDraws stream drawn left
      × RunAs lines drawn (to_run stream lines)
  asked stream [] = ([], stream, refl, (refl, refl))
  asked stream ((before, Some (says.Words words)) ∷ (own, Some (says.Event event)) ∷ more) =
      let (drawn, left, draws, asks) = asked stream more in
      (drawn, left, draws, (to_run stream more, refl, asks))
  asked stream ((own, Some (says.Event event)) ∷ more) =
      let (drawn, left, draws, asks) = asked (later_words stream) more in (
        next_words stream ∷ drawn,
        left,
        (count_outputs words_per_event stream, (later_words stream, are_outputs words_per_event stream, draws)),
        (next_words stream, drawn, to_run (later_words stream) more, refl, refl, asks),
      )
  asked stream ((own, Some (says.Look look)) ∷ more) =
      let (drawn, left, draws, asks) = asked stream more in
      (drawn, left, draws, (to_run stream more, refl, asks))
  asked stream ((own, Some (says.Analyse subject workers)) ∷ more) =
      let (drawn, left, draws, asks) = asked stream more in
      (drawn, left, draws, (to_run stream more, refl, asks))
  asked stream ((own, Some says.Together) ∷ more) = asked_inside stream [] [] more
  asked stream (other ∷ more) = asked stream more

  -- the same of lines in a block
  asked_inside :
      (stream : Stream) (sections : List (List SectionLine)) (held : List SectionLine)
      (lines : List ToldLine)
      → (drawn : List (List ℕ)) × (left : Stream) × AreDraws stream drawn left
      × BlockRunsAs sections held lines drawn (block_to_run stream sections held lines)
  asked_inside stream sections held [] = ([], stream, refl, (refl, refl))
  asked_inside stream sections held ((own, Some says.End) ∷ more) =
      let (drawn, left, draws, asks) = asked stream more in
      (drawn, left, draws, (to_run stream more, refl, asks))
  asked_inside stream sections held ((own, Some says.Also) ∷ more) =
      asked_inside stream (sections ++ held ∷ []) [] more
  asked_inside stream sections held ((before, Some (says.Words words)) ∷ (own, Some (says.Event event)) ∷ more) =
      asked_inside stream sections (held ++ section_line own (deed.Event event words) ∷ []) more
  asked_inside stream sections held ((own, Some (says.Event event)) ∷ more) =
      let (drawn, left, draws, asks) = asked_inside (later_words stream) sections
      (held ++ section_line own (deed.Event event (next_words stream)) ∷ []) more in (
        next_words stream ∷ drawn,
        left,
        (count_outputs words_per_event stream, (later_words stream, are_outputs words_per_event stream, draws)),
        (next_words stream, drawn, refl, asks),
      )
  asked_inside stream sections held ((own, Some (says.Analyse subject workers)) ∷ more) =
      asked_inside stream sections (held ++ section_line own (deed.Analyse subject.moment) ∷ []) more
  asked_inside stream sections held (other ∷ more) = asked_inside stream sections held more

-- the lines that the function finds are those that a file asks to run
pub are_to_run :
    (lines : List (ℕ × List ℕ)) (seed : ℕ) (items : List Line) → items ≡ to_run (seeded seed) (told lines)
    → AreToRun lines seed items
are_to_run lines seed items is =
    let (drawn, left, draws, asks) = asked (seeded seed) (told lines) in
    (drawn, left, draws, subst (λ ls. RunAs (told lines) drawn ls) (sym is) asks)

-- ---- one line

-- a line that asks for nothing, and begins no block
abbrev pub AsksNothing : Option Statement → Type 0
AsksNothing None = Unit {0}
AsksNothing (Some (says.Params numbers)) = Unit {0}
AsksNothing (Some (says.Seed seed)) = Unit {0}
AsksNothing (Some (says.Refill rule)) = Unit {0}
AsksNothing (Some (says.Scale scale)) = Unit {0}
AsksNothing (Some says.Also) = Unit {0}
AsksNothing (Some says.End) = Unit {0}
AsksNothing other = ⊥

passes :
    (stream : Stream) (given : Option (List ℕ)) (says : Option Statement) → AsksNothing says
    → (own : ℕ × List ℕ) (more : List ToldLine)
    → to_run stream (waiting given ++ (own, says) ∷ more) ≡ to_run stream more
unfolding to_run
passes stream None None nothing own more = refl
passes stream None (Some (says.Params numbers)) nothing own more = refl
passes stream None (Some (says.Seed seed)) nothing own more = refl
passes stream None (Some (says.Refill rule)) nothing own more = refl
passes stream None (Some (says.Scale scale)) nothing own more = refl
passes stream None (Some says.Also) nothing own more = refl
passes stream None (Some says.End) nothing own more = refl
passes stream None (Some says.Together) nothing own more = absurd nothing
passes stream None (Some (says.Words words)) nothing own more = absurd nothing
passes stream None (Some (says.Event event)) nothing own more = absurd nothing
passes stream None (Some (says.Look look)) nothing own more = absurd nothing
passes stream None (Some (says.Analyse subject workers)) nothing own more = absurd nothing
passes stream (Some given) None nothing own more = refl
passes stream (Some given) (Some (says.Params numbers)) nothing own more = refl
passes stream (Some given) (Some (says.Seed seed)) nothing own more = refl
passes stream (Some given) (Some (says.Refill rule)) nothing own more = refl
passes stream (Some given) (Some (says.Scale scale)) nothing own more = refl
passes stream (Some given) (Some says.Also) nothing own more = refl
passes stream (Some given) (Some says.End) nothing own more = refl
passes stream (Some given) (Some says.Together) nothing own more = absurd nothing
passes stream (Some given) (Some (says.Words words)) nothing own more = absurd nothing
passes stream (Some given) (Some (says.Event event)) nothing own more = absurd nothing
passes stream (Some given) (Some (says.Look look)) nothing own more = absurd nothing
passes stream (Some given) (Some (says.Analyse subject workers)) nothing own more = absurd nothing

none_asked : (says : Option Statement) → AsksNothing says → runs says ≡ false
none_asked None nothing = refl
none_asked (Some (says.Params numbers)) nothing = refl
none_asked (Some (says.Seed seed)) nothing = refl
none_asked (Some (says.Refill rule)) nothing = refl
none_asked (Some (says.Scale scale)) nothing = refl
none_asked (Some says.Also) nothing = refl
none_asked (Some says.End) nothing = refl
none_asked (Some says.Together) nothing = absurd nothing
none_asked (Some (says.Words words)) nothing = absurd nothing
none_asked (Some (says.Event event)) nothing = absurd nothing
none_asked (Some (says.Look look)) nothing = absurd nothing
none_asked (Some (says.Analyse subject workers)) nothing = absurd nothing

-- a line that asks for nothing: no random words wait after it
pub asks_nothing :
    (stream : Stream) (given left : Option (List ℕ)) (said nothing : Option Statement) → said ≡ nothing
    → AsksNothing nothing → left ≡ None
    → TakesLine stream given said None stream left
asks_nothing stream given left said nothing is asks none =
    subst (λ g. TakesLine stream given said None stream g) (sym none)
    (subst (λ s. TakesLine stream given s None stream None) (sym is)
    (refl, none_asked nothing asks, passes stream given nothing asks))

-- which line gave random words does not matter
same_words :
    (stream : Stream) (one other : ℕ × List ℕ) (words : List ℕ) (more : List ToldLine)
    → to_run stream ((one, Some (says.Words words)) ∷ more) ≡ to_run stream ((other, Some (says.Words words)) ∷ more)
unfolding to_run
same_words stream one other words [] = refl
same_words stream one other words ((own, Some (says.Event event)) ∷ more) = refl
same_words stream one other words (next ∷ more) = refl

-- random words wait for the next line
pub asks_words :
    (stream : Stream) (given : Option (List ℕ)) (words : List ℕ)
    → TakesLine stream given (Some (says.Words words)) None stream (Some words)
unfolding to_run
asks_words stream None words = (refl, refl, λ own more. same_words stream own (0, []) words more)
asks_words stream (Some given) words = (refl, refl, λ own more. same_words stream own (0, []) words more)

-- a look
pub asks_look :
    (stream : Stream) (given left : Option (List ℕ)) (look : Look)
    → TakesLine stream given (Some (says.Look look)) (Some (line.Look look)) stream left
unfolding to_run
asks_look stream None left look = (refl, refl, λ own more. refl)
asks_look stream (Some given) left look = (refl, refl, λ own more. refl)

-- an analysis
pub asks_analysis :
    (stream : Stream) (given left : Option (List ℕ)) (subject : Subject) (workers : Option ℕ)
    → TakesLine stream given (Some (says.Analyse subject workers))
    (Some (line.Analyse subject (workers_or_one workers))) stream left
unfolding to_run
asks_analysis stream None left subject workers = ((refl, refl), refl, λ own more. refl)
asks_analysis stream (Some given) left subject workers = ((refl, refl), refl, λ own more. refl)

-- an event, with the random words that wait, or else with the next of the generator
pub asks_event :
    (stream after : Stream) (given left : Option (List ℕ)) (words : List ℕ) (event : Event)
    → AreEventWords stream given words after
    → TakesLine stream given (Some (says.Event event)) (Some (line.Event event words)) after left
unfolding to_run
asks_event stream after None left words event drawn =
    (refl, refl, λ own more. ap (λ (p : List ℕ × Stream). line.Event event p.0 ∷ to_run p.1 more) drawn)
asks_event stream after (Some given) left words event (are, same) = (
  refl,
  refl,
  λ own more. ap (λ ws. line.Event event ws ∷ to_run stream more) (sym are)
      ∙ ap (λ s. line.Event event words ∷ to_run s more) (sym same),
)

-- ---- the lines that are left of a file

-- of the lines that are still to run, these lines of the file are left to read, and these random words wait
pub record StillLeft (items : List Line) (file_lines : List (ℕ × List ℕ)) (stream : Stream) (given : Option (List ℕ))
    (left : List (ℕ × List ℕ)) : Type 0 where
  pub asked : to_run stream (waiting given ++ told left) ≡ items
  pub run_left : those_that_run left ≡ file_lines

-- a line that begins no block runs, or it does not, and those after it do as before
run_next :
    (n : ℕ) (text : List ℕ) (own : Option Statement) (later : List (ℕ × List ℕ)) → own ≡ statement_of text
    → is_together own ≡ false
    → those_that_run ((n, text) ∷ later)
    ≡ (if runs own then (n, text) ∷ those_that_run later else those_that_run later)
unfolding those_that_run outside_blocks
run_next n text own later says single =
    ap (λ b. filter (λ line. runs (statement_of line.1)) ((n, text) ∷ outside_blocks b later))
    (ap is_together (sym says) ∙ single)
    ∙ ap (λ o. if runs o then (n, text) ∷ those_that_run later else those_that_run later) (sym says)

-- the next line asks for no line to run
pub passed :
    (items : List Line) (file_lines now later : List (ℕ × List ℕ)) (stream after : Stream)
    (given waits : Option (List ℕ)) (n : ℕ) (text : List ℕ) (own : Option Statement) (line : Option Line)
    → StillLeft items file_lines stream given now → now ≡ (n, text) ∷ later → own ≡ statement_of text
    → is_together own ≡ false → line ≡ None
    → TakesLine stream given own line after waits
    → StillLeft items file_lines after waits later
passed items file_lines now later stream after given waits n text own line before first says single is asks =
    let (same, none, asked) = subst (λ l. TakesLine stream given own l after waits) is asks in
    record {
      asked =
          ap (λ s. to_run s (waiting waits ++ told later)) same
          ∙ sym (asked (n, text) (told later))
          ∙ ap (λ o. to_run stream (waiting given ++ ((n, text), o) ∷ told later)) says
          ∙ ap (λ ls. to_run stream (waiting given ++ told ls)) (sym first)
          ∙ before.asked;
      run_left =
          ap (λ t. if t then (n, text) ∷ those_that_run later else those_that_run later) (sym none)
          ∙ sym (run_next n text own later says single)
          ∙ ap those_that_run (sym first)
          ∙ before.run_left;
    }

-- the next line asks for this one
pub taken :
    (items : List Line) (file_lines now later : List (ℕ × List ℕ)) (stream after : Stream)
    (given waits : Option (List ℕ)) (n : ℕ) (text : List ℕ) (own : Option Statement) (line : Option Line) (next : Line)
    → StillLeft items file_lines stream given now → now ≡ (n, text) ∷ later → own ≡ statement_of text
    → is_together own ≡ false → line ≡ Some next
    → TakesLine stream given own line after waits
    → (items ≡ next ∷ to_run after (told later)) × (file_lines ≡ (n, text) ∷ those_that_run later)
taken items file_lines now later stream after given waits n text own line next before first says single is asks =
    let (for, some, asked) = subst (λ l. TakesLine stream given own l after waits) is asks in (
      sym before.asked ∙ ap (λ ls. to_run stream (waiting given ++ told ls)) first
          ∙ ap (λ o. to_run stream (waiting given ++ ((n, text), o) ∷ told later)) (sym says)
          ∙ asked (n, text) (told later),
      sym before.run_left ∙ ap those_that_run first
          ∙ run_next n text own later says single
          ∙ ap (λ t. if t then (n, text) ∷ those_that_run later else those_that_run later) some,
    )

says_together : (own : Option Statement) → is_together own ≡ true → own ≡ Some says.Together
says_together None is = absurd cc
says_together (Some (says.Params numbers)) is = absurd cc
says_together (Some (says.Seed seed)) is = absurd cc
says_together (Some (says.Refill rule)) is = absurd cc
says_together (Some (says.Scale scale)) is = absurd cc
says_together (Some (says.Words words)) is = absurd cc
says_together (Some (says.Event event)) is = absurd cc
says_together (Some (says.Look look)) is = absurd cc
says_together (Some (says.Analyse subject workers)) is = absurd cc
says_together (Some says.Together) is = refl
says_together (Some says.Also) is = absurd cc
says_together (Some says.End) is = absurd cc

block_asked :
    (stream : Stream) (given : Option (List ℕ)) (own : ℕ × List ℕ) (more : List ToldLine)
    → to_run stream (waiting given ++ (own, Some says.Together) ∷ more) ≡ block_to_run stream [] [] more
unfolding to_run
block_asked stream None own more = refl
block_asked stream (Some given) own more = refl

block_runs :
    (n : ℕ) (text : List ℕ) (later : List (ℕ × List ℕ)) → statement_of text ≡ Some says.Together
    → those_that_run ((n, text) ∷ later)
    ≡ (n, text) ∷ filter (λ line. runs (statement_of line.1)) (outside_blocks true later)
unfolding those_that_run outside_blocks
block_runs n text later says =
    ap (λ o. if runs o
    then (n, text) ∷ filter (λ line. runs (statement_of line.1)) (outside_blocks (is_together o) later)
    else filter (λ line. runs (statement_of line.1)) (outside_blocks (is_together o) later)) says

-- the next line begins a block, which is asked for
pub block_begun :
    (items : List Line) (file_lines now later : List (ℕ × List ℕ)) (stream : Stream) (given : Option (List ℕ)) (n : ℕ)
    (text : List ℕ) (own : Option Statement)
    → StillLeft items file_lines stream given now → now ≡ (n, text) ∷ later → own ≡ statement_of text
    → is_together own ≡ true
    → items ≡ block_to_run stream [] [] (told later)
block_begun items file_lines now later stream given n text own before first says is =
    sym before.asked ∙ ap (λ ls. to_run stream (waiting given ++ told ls)) first
    ∙ ap (λ o. to_run stream (waiting given ++ ((n, text), o) ∷ told later)) (sym says ∙ says_together own is)
    ∙ block_asked stream given (n, text) (told later)

-- the next line begins a block with these sections, and behind it these lines of the file are left
pub block_taken :
    (items : List Line) (file_lines now later behind : List (ℕ × List ℕ)) (stream after : Stream)
    (given : Option (List ℕ)) (n : ℕ) (text : List ℕ) (own : Option Statement) (sections : List (List SectionLine))
    → StillLeft items file_lines stream given now → now ≡ (n, text) ∷ later → own ≡ statement_of text
    → is_together own ≡ true
    → block_to_run stream [] [] (told later) ≡ line.Together sections ∷ to_run after (told behind)
    → outside_blocks true later ≡ outside_blocks false behind
    → (items ≡ line.Together sections ∷ to_run after (told behind))
    × (file_lines ≡ (n, text) ∷ those_that_run behind)
unfolding those_that_run
block_taken items file_lines now later behind stream after given n text own sections before first says is runs_as
    outside = (
      block_begun items file_lines now later stream given n text own before first says is ∙ runs_as,
      sym before.run_left ∙ ap those_that_run first
          ∙ block_runs n text later (sym says ∙ says_together own is)
          ∙ ap (λ ls. (n, text) ∷ filter (λ line. runs (statement_of line.1)) ls) outside,
    )

-- a line that begins a block is one of a block
pub block_line :
    (text : List ℕ) (own : Option Statement) (sections : List (List SectionLine)) → own ≡ statement_of text
    → is_together own ≡ true
    → IsLineOf (statement_of text) (line.Together sections)
block_line text own sections says is =
    subst (λ o. IsLineOf o (line.Together sections)) (sym (says_together own is) ∙ says) tt

nothing : (stream : Stream) (given : Option (List ℕ)) → to_run stream (waiting given ++ []) ≡ []
unfolding to_run
nothing stream None = refl
nothing stream (Some words) = refl

-- no line is left
pub ended :
    (items : List Line) (file_lines left : List (ℕ × List ℕ)) (stream : Stream) (given : Option (List ℕ))
    → StillLeft items file_lines stream given left → left ≡ []
    → (items ≡ []) × (file_lines ≡ [])
unfolding those_that_run outside_blocks
ended items file_lines left stream given before none = (
  sym before.asked ∙ ap (λ ls. to_run stream (waiting given ++ told ls)) none ∙ nothing stream given,
  sym before.run_left ∙ ap those_that_run none,
)
