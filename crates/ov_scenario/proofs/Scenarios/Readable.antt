-- Lines that can be read, and for which of these memory can be lacking.
use Rattle.std.proofs.Common.{◌≡◌, ◌∙◌, inr, inl, ℕ, true, List, [], ◌∷◌, ◌++◌, map, Option, Some, None, IsSome, IfSome}
use Rattle.std.proofs.Common.{refl, ap, sym, subst}
use Rattle.rand_core.specs.Stream.{Stream}
use Rattle.ov_lines.specs.Lines.{kept_lines}
use Rattle.ov_lines.specs.declared.unexpected_word.Unread.{Unread}
use Rattle.ov_scenario.specs.RunLines.{FirstNeedsMemory, ReadingNeedsMemory}
use Rattle.ov_scenario.specs.Scenarios.{AreFaulty, AreFaultless, IsWrong, before_of, stated_at, stated_lines}
use Rattle.ov_scenario.specs.Sections.{SectionLine, is_together, section_line}
use Rattle.ov_scenario.specs.Statements.{Stated, ToldLine, statement_of, told}
use Rattle.ov_scenario.specs.Code.RunnableLines.{AreReadable, block_to_run, later_words, next_words, to_run, waiting}
use Rattle.ov_scenario.specs.declared.line_judging.Before.{Before}
use Rattle.ov_scenario.specs.declared.scenario.Line.{Line}
use Rattle.ov_scenario.specs.declared.scenario_fault.LineFault.{LineFault}
use Rattle.ov_scenario.specs.declared.scenario_fault.LineFault.TheVariants as fault
use Rattle.ov_scenario.specs.declared.line_of_section.Deed.TheVariants as deed
use Rattle.ov_scenario.specs.declared.statement.Statement.{Statement}
use Rattle.ov_scenario.specs.declared.statement.Statement.TheVariants as says
use Rattle.ov_scenario.proofs.Scenarios.Asked.{StillLeft, block_begun}

-- ---- lines without a fault can be read

-- some reason why a line can't be read
some_unread : Unread
some_unread = record { at = 0; wanted = record { ref_ptr = (0, 0); now = [] } }

line_readable :
    (before : Before) (own : Option Statement) (after : List Stated)
    → ((f : LineFault) → ¬ IsWrong before own after f) → IsSome own
line_readable before None after right = absurd (right (fault.Unread some_unread) (some_unread, refl))
line_readable before (Some s) after right = refl

each_readable :
    (passed : List Stated) (lines : List (ℕ × List ℕ)) → AreFaulty passed (map stated_at lines) []
    → AreReadable lines
unfolding AreFaulty AreReadable
each_readable passed [] right = tt
each_readable passed (first ∷ more) (inr (f, later, wrong, none, rest)) = absurd cc
each_readable passed (first ∷ more) (inl (right, rest)) = (
  line_readable (before_of passed) (statement_of first.1) (map stated_at more) right,
  each_readable (passed ++ stated_at first ∷ []) more rest,
)

-- the lines of a file without a fault
pub faultless_readable : (bytes : List ℕ) → AreFaultless (stated_lines bytes) → AreReadable (kept_lines bytes)
unfolding stated_lines
faultless_readable bytes right = each_readable [] (kept_lines bytes) right

-- ---- the next line

-- the first line can be read, and so can those after it
pub next_readable :
    (now later : List (ℕ × List ℕ)) (n : ℕ) (text : List ℕ) → AreReadable now → now ≡ (n, text) ∷ later
    → IsSome (statement_of text) × AreReadable later
unfolding AreReadable
next_readable now later n text are first = subst AreReadable first are

-- and so can these
pub later_readable :
    (now later : List (ℕ × List ℕ)) (n : ℕ) (text : List ℕ) → AreReadable now → now ≡ (n, text) ∷ later
    → AreReadable later
later_readable now later n text are first = (next_readable now later n text are first).1

-- a line that can be read and needs memory asks for a line to run
asks_first :
    (stream : Stream) (given : Option (List ℕ)) (own : Option Statement) (line : ℕ × List ℕ)
    (more : List ToldLine) → IsSome own
    → IfSome own ReadingNeedsMemory → FirstNeedsMemory (to_run stream (waiting given ++ (line, own) ∷ more))
unfolding to_run
asks_first stream given None line more some needs = absurd cc
asks_first stream given (Some (says.Params numbers)) line more some needs = absurd needs
asks_first stream given (Some (says.Seed seed)) line more some needs = absurd needs
asks_first stream given (Some (says.Refill rule)) line more some needs = absurd needs
asks_first stream given (Some (says.Scale scale)) line more some needs = absurd needs
asks_first stream given (Some (says.Words words)) line more some needs = absurd needs
asks_first stream given (Some says.Together) line more some needs = absurd needs
asks_first stream given (Some says.Also) line more some needs = absurd needs
asks_first stream given (Some says.End) line more some needs = absurd needs
asks_first stream None (Some (says.Event event)) line more some needs = needs
asks_first stream (Some words) (Some (says.Event event)) line more some needs = needs
asks_first stream None (Some (says.Look look)) line more some needs = needs
asks_first stream (Some words) (Some (says.Look look)) line more some needs = needs
asks_first stream None (Some (says.Analyse subject workers)) line more some needs = needs
asks_first stream (Some words) (Some (says.Analyse subject workers)) line more some needs = needs

-- a block needs memory
pub block_needs_memory :
    (stream : Stream) (sections : List (List SectionLine)) (held : List SectionLine)
    (lines : List ToldLine) → FirstNeedsMemory (block_to_run stream sections held lines)
unfolding to_run
block_needs_memory stream sections held [] = tt
block_needs_memory stream sections held ((own, Some says.End) ∷ more) = tt
block_needs_memory stream sections held ((own, Some says.Also) ∷ more) =
    block_needs_memory stream (sections ++ held ∷ []) [] more
block_needs_memory stream sections held ((before, Some (says.Words words)) ∷ (own, Some (says.Event event)) ∷ more) =
    block_needs_memory stream sections (held ++ section_line own (deed.Event event words) ∷ []) more
block_needs_memory stream sections held ((own, Some (says.Event event)) ∷ more) =
    block_needs_memory (later_words stream) sections
    (held ++ section_line own (deed.Event event (next_words stream)) ∷ []) more
block_needs_memory stream sections held ((own, Some (says.Analyse subject workers)) ∷ more) =
    block_needs_memory stream sections (held ++ section_line own (deed.Analyse subject.moment) ∷ []) more
block_needs_memory stream sections held (other ∷ more) = block_needs_memory stream sections held more

-- memory is lacking to read the block that the first line that is left begins
pub block_lacking :
    (items : List Line) (file_lines now later : List (ℕ × List ℕ)) (stream : Stream) (given : Option (List ℕ)) (n : ℕ)
    (text : List ℕ) (own : Option Statement)
    → StillLeft items file_lines stream given now → now ≡ (n, text) ∷ later → own ≡ statement_of text
    → is_together own ≡ true
    → FirstNeedsMemory items
block_lacking items file_lines now later stream given n text own before first says is =
    subst (λ (ls : List Line). FirstNeedsMemory ls)
    (sym (block_begun items file_lines now later stream given n text own before first says is))
    (block_needs_memory stream [] [] (told later))

-- memory is lacking to read the first line that is left, so the next line to run needs memory
pub lacking :
    (items : List Line) (file_lines now later : List (ℕ × List ℕ)) (stream : Stream) (given : Option (List ℕ)) (n : ℕ)
    (text : List ℕ)
    → StillLeft items file_lines stream given now → AreReadable now → now ≡ (n, text) ∷ later
    → IfSome (statement_of text) ReadingNeedsMemory
    → FirstNeedsMemory items
lacking items file_lines now later stream given n text before are first needs =
    subst (λ (ls : List Line). FirstNeedsMemory ls)
    (ap (λ ls. to_run stream (waiting given ++ told ls)) (sym first) ∙ before.asked)
    (asks_first stream given (statement_of text) (n, text) (told later) (next_readable now later n text are first).0
    needs)
