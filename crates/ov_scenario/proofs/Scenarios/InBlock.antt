-- The lines of a block, one after the other.
use Rattle.std.proofs.Common.{◌≡◌, ◌∙◌, ℕ, true, false, if◌then◌else◌, List, [], ◌∷◌, ◌++◌}
use Rattle.std.proofs.Common.{Option, Some, None, refl, ap, sym, subst}
use Rattle.rand_core.specs.Stream.{Stream}
use Rattle.ov_net.specs.declared.event.Event.{Event}
use Rattle.ov_scenario.specs.RunLines.{outside_blocks}
use Rattle.ov_scenario.specs.Sections.{SectionLine, is_end, section_line}
use Rattle.ov_scenario.specs.Statements.{ToldLine, statement_of, told}
use Rattle.ov_scenario.specs.Code.RunnableLines.{AreEventWords, AreReadable, TakesPart, block_to_run, to_run, waiting}
use Rattle.ov_scenario.specs.declared.block_reading.Part.TheVariants as part
use Rattle.ov_scenario.specs.declared.scenario.Line.TheVariants as line
use Rattle.ov_scenario.specs.declared.scenario.Subject.{Subject}
use Rattle.ov_scenario.specs.declared.line_of_section.Deed.TheVariants as deed
use Rattle.ov_scenario.specs.declared.statement.Statement.{Statement}
use Rattle.ov_scenario.specs.declared.statement.Statement.TheVariants as says
use Rattle.ov_scenario.proofs.Scenarios.Readable.{later_readable}

-- ---- one line

-- a line that does nothing in a block
abbrev pub DoesNothing : Option Statement → Type 0
DoesNothing None = Unit {0}
DoesNothing (Some (says.Params numbers)) = Unit {0}
DoesNothing (Some (says.Seed seed)) = Unit {0}
DoesNothing (Some (says.Refill rule)) = Unit {0}
DoesNothing (Some (says.Scale scale)) = Unit {0}
DoesNothing (Some (says.Look look)) = Unit {0}
DoesNothing (Some says.Together) = Unit {0}
DoesNothing other = ⊥

passes :
    (stream : Stream) (given : Option (List ℕ)) (says : Option Statement) → DoesNothing says
    → (sections : List (List SectionLine)) (held : List SectionLine) (own : ℕ × List ℕ)
    (more : List ToldLine)
    → block_to_run stream sections held (waiting given ++ (own, says) ∷ more) ≡ block_to_run stream sections held more
unfolding to_run
passes stream None None nothing sections held own more = refl
passes stream None (Some (says.Params numbers)) nothing sections held own more = refl
passes stream None (Some (says.Seed seed)) nothing sections held own more = refl
passes stream None (Some (says.Refill rule)) nothing sections held own more = refl
passes stream None (Some (says.Scale scale)) nothing sections held own more = refl
passes stream None (Some (says.Look look)) nothing sections held own more = refl
passes stream None (Some says.Together) nothing sections held own more = refl
passes stream None (Some says.Also) nothing sections held own more = absurd nothing
passes stream None (Some says.End) nothing sections held own more = absurd nothing
passes stream None (Some (says.Words words)) nothing sections held own more = absurd nothing
passes stream None (Some (says.Event event)) nothing sections held own more = absurd nothing
passes stream None (Some (says.Analyse subject workers)) nothing sections held own more = absurd nothing
passes stream (Some given) None nothing sections held own more = refl
passes stream (Some given) (Some (says.Params numbers)) nothing sections held own more = refl
passes stream (Some given) (Some (says.Seed seed)) nothing sections held own more = refl
passes stream (Some given) (Some (says.Refill rule)) nothing sections held own more = refl
passes stream (Some given) (Some (says.Scale scale)) nothing sections held own more = refl
passes stream (Some given) (Some (says.Look look)) nothing sections held own more = refl
passes stream (Some given) (Some says.Together) nothing sections held own more = refl
passes stream (Some given) (Some says.Also) nothing sections held own more = absurd nothing
passes stream (Some given) (Some says.End) nothing sections held own more = absurd nothing
passes stream (Some given) (Some (says.Words words)) nothing sections held own more = absurd nothing
passes stream (Some given) (Some (says.Event event)) nothing sections held own more = absurd nothing
passes stream (Some given) (Some (says.Analyse subject workers)) nothing sections held own more = absurd nothing

no_end : (says : Option Statement) → DoesNothing says → is_end says ≡ false
no_end None nothing = refl
no_end (Some (says.Params numbers)) nothing = refl
no_end (Some (says.Seed seed)) nothing = refl
no_end (Some (says.Refill rule)) nothing = refl
no_end (Some (says.Scale scale)) nothing = refl
no_end (Some (says.Look look)) nothing = refl
no_end (Some says.Together) nothing = refl
no_end (Some says.Also) nothing = absurd nothing
no_end (Some says.End) nothing = absurd nothing
no_end (Some (says.Words words)) nothing = absurd nothing
no_end (Some (says.Event event)) nothing = absurd nothing
no_end (Some (says.Analyse subject workers)) nothing = absurd nothing

-- a line that does nothing: no random words wait after it
pub does_nothing :
    (stream : Stream) (given left : Option (List ℕ)) (said nothing : Option Statement) → said ≡ nothing
    → DoesNothing nothing → left ≡ None
    → TakesPart stream given said part.Nothing stream left
does_nothing stream given left said nothing is does none =
    subst (λ g. TakesPart stream given said part.Nothing stream g) (sym none)
    (subst (λ s. TakesPart stream given s part.Nothing stream None) (sym is)
    (no_end nothing does, passes stream given nothing does))

-- which line gave random words does not matter
same_words :
    (stream : Stream) (sections : List (List SectionLine)) (held : List SectionLine) (one other : ℕ × List ℕ)
    (words : List ℕ) (more : List ToldLine)
    → block_to_run stream sections held ((one, Some (says.Words words)) ∷ more)
    ≡ block_to_run stream sections held ((other, Some (says.Words words)) ∷ more)
unfolding to_run
same_words stream sections held one other words [] = refl
same_words stream sections held one other words ((own, Some (says.Event event)) ∷ more) = refl
same_words stream sections held one other words (next ∷ more) = refl

-- random words wait for the next line
pub gives_words :
    (stream : Stream) (given : Option (List ℕ)) (words : List ℕ)
    → TakesPart stream given (Some (says.Words words)) part.Nothing stream (Some words)
unfolding to_run
gives_words stream None words =
    (refl, λ sections held own more. same_words stream sections held own (0, []) words more)
gives_words stream (Some given) words =
    (refl, λ sections held own more. same_words stream sections held own (0, []) words more)

-- the next section
pub begins_section :
    (stream : Stream) (given : Option (List ℕ)) → TakesPart stream given (Some says.Also) part.Section stream None
unfolding to_run
begins_section stream None = (refl, λ sections held own more. refl)
begins_section stream (Some given) = (refl, λ sections held own more. refl)

-- the end of the block
pub ends_block :
    (stream : Stream) (given left : Option (List ℕ)) → TakesPart stream given (Some says.End) part.End stream left
unfolding to_run
ends_block stream None left = (refl, λ sections held own more. refl)
ends_block stream (Some given) left = (refl, λ sections held own more. refl)

-- an analysis
pub analyses :
    (stream : Stream) (given : Option (List ℕ)) (subject : Subject) (workers : Option ℕ)
    → TakesPart stream given (Some (says.Analyse subject workers)) (part.Deed (deed.Analyse subject.moment)) stream
    None
unfolding to_run
analyses stream None subject workers = (refl, λ sections held own more. refl)
analyses stream (Some given) subject workers = (refl, λ sections held own more. refl)

-- an event, with the random words that wait, or else with the next of the generator
pub happens :
    (stream after : Stream) (given : Option (List ℕ)) (words : List ℕ) (event : Event)
    → AreEventWords stream given words after
    → TakesPart stream given (Some (says.Event event)) (part.Deed (deed.Event event words)) after None
unfolding to_run
happens stream after None words event drawn = (
  refl,
  λ sections held own more.
      ap (λ (p : List ℕ × Stream). block_to_run p.1 sections
      (held ++ section_line own (deed.Event event p.0) ∷ []) more) drawn,
)
happens stream after (Some given) words event (are, same) = (
  refl,
  λ sections held own more.
      ap (λ ws. block_to_run stream sections (held ++ section_line own (deed.Event event ws) ∷ []) more) (sym are)
      ∙ ap (λ s. block_to_run s sections (held ++ section_line own (deed.Event event words) ∷ []) more) (sym same),
)

-- ---- the lines that are left of a block

-- the lines of a block up to now are these sections and these lines of the next one, and random words may wait. These
-- lines of the file are left to read
pub record BlockLeft (all : List (ℕ × List ℕ)) (begun : Stream) (left : List (ℕ × List ℕ)) (stream : Stream)
    (given : Option (List ℕ)) (sections : List (List SectionLine)) (held : List SectionLine) : Type 0 where
  pub asked : block_to_run begun [] [] (told all) ≡ block_to_run stream sections held (waiting given ++ told left)
  pub outside : outside_blocks true all ≡ outside_blocks true left
  pub readable : AreReadable all → AreReadable left

-- the next line ends no block: the lines behind it are left
outside_next :
    (n : ℕ) (text : List ℕ) (own : Option Statement) (later : List (ℕ × List ℕ)) → own ≡ statement_of text
    → is_end own ≡ false
    → outside_blocks true ((n, text) ∷ later) ≡ outside_blocks true later
unfolding outside_blocks
outside_next n text own later says is =
    ap (λ t. if t then outside_blocks false later else outside_blocks true later) (ap is_end (sym says) ∙ is)

outside_end :
    (n : ℕ) (text : List ℕ) (own : Option Statement) (later : List (ℕ × List ℕ)) → own ≡ statement_of text
    → is_end own ≡ true
    → outside_blocks true ((n, text) ∷ later) ≡ outside_blocks false later
unfolding outside_blocks
outside_end n text own later says is =
    ap (λ t. if t then outside_blocks false later else outside_blocks true later) (ap is_end (sym says) ∙ is)

-- the next line was taken in
pub goes_on :
    (all now later : List (ℕ × List ℕ)) (begun stream after : Stream) (given waits : Option (List ℕ))
    (sections gained : List (List SectionLine)) (held holds : List SectionLine) (n : ℕ) (text : List ℕ)
    → BlockLeft all begun now stream given sections held → now ≡ (n, text) ∷ later
    → is_end (statement_of text) ≡ false
    → block_to_run stream sections held (waiting given ++ ((n, text), statement_of text) ∷ told later)
    ≡ block_to_run after gained holds (waiting waits ++ told later)
    → BlockLeft all begun later after waits gained holds
goes_on all now later begun stream after given waits sections gained held holds n text before first is asks =
    record {
      asked = before.asked ∙ ap (λ ls. block_to_run stream sections held (waiting given ++ told ls)) first ∙ asks;
      outside =
          before.outside ∙ ap (λ ls. outside_blocks true ls) first
          ∙ outside_next n text (statement_of text) later refl is;
      readable = λ are. later_readable now later n text (before.readable are) first;
    }

-- the next line ends the block
pub ends :
    (all now later : List (ℕ × List ℕ)) (begun stream after : Stream) (given : Option (List ℕ))
    (sections whole : List (List SectionLine)) (held : List SectionLine) (n : ℕ) (text : List ℕ)
    → BlockLeft all begun now stream given sections held → now ≡ (n, text) ∷ later
    → is_end (statement_of text) ≡ true
    → block_to_run stream sections held (waiting given ++ ((n, text), statement_of text) ∷ told later)
    ≡ line.Together whole ∷ to_run after (told later)
    → (block_to_run begun [] [] (told all) ≡ line.Together whole ∷ to_run after (told later))
    × (outside_blocks true all ≡ outside_blocks false later) × (AreReadable all → AreReadable later)
ends all now later begun stream after given sections whole held n text before first is asks = (
  before.asked ∙ ap (λ ls. block_to_run stream sections held (waiting given ++ told ls)) first ∙ asks,
  before.outside ∙ ap (λ ls. outside_blocks true ls) first ∙ outside_end n text (statement_of text) later refl is,
  λ are. later_readable now later n text (before.readable are) first,
)

nothing :
    (stream : Stream) (given : Option (List ℕ)) (sections : List (List SectionLine)) (held : List SectionLine)
    → block_to_run stream sections held (waiting given ++ []) ≡ line.Together (sections ++ held ∷ []) ∷ to_run stream []
unfolding to_run
nothing stream None sections held = refl
nothing stream (Some words) sections held = refl

-- no line is left
pub ends_with_file :
    (all now : List (ℕ × List ℕ)) (begun stream : Stream) (given : Option (List ℕ))
    (sections whole : List (List SectionLine)) (held : List SectionLine)
    → BlockLeft all begun now stream given sections held → now ≡ [] → whole ≡ sections ++ held ∷ []
    → (block_to_run begun [] [] (told all) ≡ line.Together whole ∷ to_run stream (told now))
    × (outside_blocks true all ≡ outside_blocks false now) × (AreReadable all → AreReadable now)
unfolding outside_blocks
ends_with_file all now begun stream given sections whole held before none made = (
  before.asked ∙ ap (λ ls. block_to_run stream sections held (waiting given ++ told ls)) none
      ∙ nothing stream given sections held
      ∙ ap (λ ss. line.Together ss ∷ to_run stream []) (sym made)
      ∙ ap (λ ls. line.Together whole ∷ to_run stream (told ls)) (sym none),
  before.outside ∙ ap (λ ls. outside_blocks true ls) none ∙ ap (λ ls. outside_blocks false ls) (sym none),
  before.readable,
)
