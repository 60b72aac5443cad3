-- Sections of a scenario file: lines that run at once with those of other sections, each section by a driver of its
-- own. `together` begins a block of sections with its first section, `also` begins the next one, and `end` ends the
-- block. That a driver is a thread, and this form of the lines, are chosen here.
use Rattle.std.specs.Prelude.{◌≡◌, ℕ, ◌+◌, min, Bool, true, false, ◌||◌, List, [], ◌∷◌, Option, Some, None}
use Rattle.ov_ids.specs.Workers.{most_workers}
use Rattle.ov_scenario.specs.Statements.{Stated}
use Rattle.ov_scenario.specs.declared.open_block.OpenBlock.{OpenBlock}
use Rattle.ov_scenario.specs.declared.scenario.Subject.{Subject}
use Rattle.ov_scenario.specs.declared.line_of_section.Deed.{Deed}
use Rattle.ov_scenario.specs.declared.statement.Statement.{Statement}
use Rattle.ov_scenario.specs.declared.statement.Statement.TheVariants as says

-- how many sections a block may have: as many as there may be workers
abbrev pub most_sections : ℕ
most_sections = most_workers

-- ---- the lines of sections

-- a line of a section: the number and the text of the line of the file that asks for it, and what it does
pub record SectionLine : Type 0 where
  pub number : ℕ
  pub text : List ℕ
  pub deed : Deed

-- the line of a section that does this, for which this line of a file asks, with its number
abbrev pub section_line : ℕ × List ℕ → Deed → SectionLine
section_line own deed = record { number = own.0; text = own.1; deed = deed }

-- an analysis is plain: all nodes of a moment are analysed, and no number of workers is named
abbrev pub IsPlain : Subject → Option ℕ → Type 0
IsPlain subject workers = (subject.group ≡ None) × (workers ≡ None)

-- ---- where blocks begin and end

-- a line that says this begins a block
abbrev pub is_together : Option Statement → Bool
is_together (Some says.Together) = true
is_together other = false

-- a line that says this ends a block
abbrev pub is_end : Option Statement → Bool
is_end (Some says.End) = true
is_end other = false

-- one of these lines ends a block
unfoldable pub has_end : List Stated → Bool
has_end [] = false
has_end (line ∷ more) = is_end line.says || has_end more

-- a block with a section more than this one has, up to as many as a block may have
abbrev pub with_section : OpenBlock → OpenBlock
with_section block = record { together = block.together; sections = min (block.sections + 1) most_sections }

-- the block that is open after a line of this number that says this, if one is. This one was open before the line, if
-- one was
abbrev pub open_next : Option OpenBlock → ℕ → Option Statement → Option OpenBlock
open_next None number (Some says.Together) = Some (record { together = number; sections = 1 })
open_next None number other = None
open_next (Some block) number (Some says.Also) = Some (with_section block)
open_next (Some block) number (Some says.End) = None
open_next (Some block) number other = Some block

-- the block that is open after these lines, if one is. This one was open before them, if one was
unfoldable pub open_from : Option OpenBlock → List Stated → Option OpenBlock
open_from open_before [] = open_before
open_from open_before (line ∷ more) = open_from (open_next open_before line.number line.says) more

-- the block that is open after these lines of a file, from its first line on, if one is
abbrev pub open_after : List Stated → Option OpenBlock
open_after lines = open_from None lines
