-- How many drivers the lines of a file need.
use Rattle.std.proofs.Common.{◌≡◌, ◌∙◌, ◌+◌, ◌≤◌, inl, inr, ℕ, max, List, [], ◌∷◌, ◌++◌, length, map}
use Rattle.std.proofs.Common.{Option, Some, None, refl, ap, sym, subst, arith, length-append}
use Rattle.rand_core.specs.Stream.{Stream}
use Rattle.ov_lines.specs.Lines.{kept_lines}
use Rattle.ov_scenario.specs.RunLines.{drivers_for}
use Rattle.ov_scenario.specs.Scenarios.{AreFaulty, AreFaultless, IsWrongIn, before_of, stated_at, stated_lines}
use Rattle.ov_scenario.specs.Sections.{SectionLine, open_after, open_from, open_next, section_line, with_section}
use Rattle.ov_scenario.specs.Statements.{Stated, ToldLine, told}
use Rattle.ov_scenario.specs.Code.Judging.{drivers_from, sections_of}
use Rattle.ov_scenario.specs.Code.RunnableLines.{block_to_run, later_words, next_words, to_run}
use Rattle.ov_scenario.specs.declared.open_block.OpenBlock.{OpenBlock}
use Rattle.ov_scenario.specs.declared.scenario.Line.{Line}
use Rattle.ov_scenario.specs.declared.scenario.Line.TheVariants as line
use Rattle.ov_scenario.specs.declared.scenario_fault.LineFault.{LineFault}
use Rattle.ov_scenario.specs.declared.scenario_fault.LineFault.TheVariants as fault
use Rattle.ov_scenario.specs.declared.line_of_section.Deed.TheVariants as deed
use Rattle.ov_scenario.specs.declared.statement.Statement.TheVariants as says
use Rattle.ov_scenario.proofs.Scenarios.Judged.{open_more}

-- ---- numbers

again : (n x d : ℕ) → d ≡ max n x → d ≡ max n (max n x)
again n x d is = omega (arith, is)

grown : (n m x d : ℕ) → n ≤ m → d ≡ max m x → d ≡ max n (max m x)
grown n m x d more is = omega (arith, more, is)

ended : (n m x d : ℕ) → m ≡ n → d ≡ max 1 x → max m d ≡ max n (max 1 x)
ended n m x d same is = omega (arith, same, is)

-- ---- lines

-- a line of a file, and what it says
abbrev stated_of : ToldLine → Stated
stated_of line = record { number = line.0.0; says = line.1 }

-- lines without a fault, without the first of them
rest_right :
    (passed : List Stated) (line : Stated) (more : List Stated) → AreFaulty passed (line ∷ more) []
    → AreFaulty (passed ++ line ∷ []) more []
unfolding AreFaulty
rest_right passed line more (inl (right, rest)) = rest
rest_right passed line more (inr (f, later, wrong, none, rest)) = absurd cc

-- the block that is open after one line more
opens :
    (passed : List Stated) (line : Stated) (now next : Option OpenBlock) → open_after passed ≡ now
    → open_next now line.number line.says ≡ next
    → open_after (passed ++ line ∷ []) ≡ next
opens passed line now next is becomes =
    sym (open_more None passed line) ∙ ap (λ o. open_next o line.number line.says) is ∙ becomes

-- a section may begin where no line is at fault
has_room :
    (passed : List Stated) (n : ℕ) (more : List Stated) (block : OpenBlock)
    → AreFaulty passed (record { number = n; says = Some says.Also } ∷ more) [] → open_after passed ≡ Some block
    → ¬ (block.sections ≡ 64)
unfolding AreFaulty
has_room passed n more block (inl (right, rest)) is full =
    subst (λ o. (f : LineFault) → ¬ IsWrongIn o (before_of passed) says.Also more f) is right
    (fault.TooManySections block.together) (full, refl)
has_room passed n more block (inr (f, later, wrong, none, rest)) is full = absurd cc

one_longer : (sections : List (List SectionLine)) (held : List SectionLine) (n : ℕ) → length sections + 1 ≡ n
    → length (sections ++ held ∷ []) ≡ n
one_longer sections held n is = omega (arith, length-append sections (held ∷ []), is)

mutual
  unfolding to_run drivers_for drivers_from

  -- lines that stand in no block need as many drivers as the largest block among them
  outside :
      (passed : List Stated) (stream : Stream) (lines : List ToldLine)
      → AreFaulty passed (map stated_of lines) [] → open_after passed ≡ None
      → drivers_for (to_run stream lines) ≡ max 1 (drivers_from None (map stated_of lines))
  outside passed stream [] right is = omega arith
  outside passed stream ((before, Some (says.Words words)) ∷ (own, Some (says.Event event)) ∷ more) right is =
      let first = stated_of (before, Some (says.Words words)) in
      let second = stated_of (own, Some (says.Event event)) in
      again 1 (max 1 (drivers_from None (map stated_of more))) _
      (again 1 (drivers_from None (map stated_of more)) _
      (outside ((passed ++ first ∷ []) ++ second ∷ []) stream more
      (rest_right (passed ++ first ∷ []) second _ (rest_right passed first _ right))
      (opens (passed ++ first ∷ []) second None None (opens passed first None None is refl) refl)))
  outside passed stream ((own, Some (says.Event event)) ∷ more) right is =
      let line = stated_of (own, Some (says.Event event)) in
      again 1 (drivers_from None (map stated_of more)) _
      (outside (passed ++ line ∷ []) (later_words stream) more (rest_right passed line _ right)
      (opens passed line None None is refl))
  outside passed stream ((own, Some (says.Look look)) ∷ more) right is =
      let line = stated_of (own, Some (says.Look look)) in
      again 1 (drivers_from None (map stated_of more)) _
      (outside (passed ++ line ∷ []) stream more (rest_right passed line _ right) (opens passed line None None is refl))
  outside passed stream ((own, Some (says.Analyse subject workers)) ∷ more) right is =
      let line = stated_of (own, Some (says.Analyse subject workers)) in
      again 1 (drivers_from None (map stated_of more)) _
      (outside (passed ++ line ∷ []) stream more (rest_right passed line _ right) (opens passed line None None is refl))
  outside passed stream ((own, Some says.Together) ∷ more) right is =
      let line = stated_of (own, Some says.Together) in
      let block : OpenBlock = record { together = own.0; sections = 1 } in
      again 1 (drivers_from (Some block) (map stated_of more)) _
      (inside (passed ++ line ∷ []) block stream [] [] more (rest_right passed line _ right)
      (opens passed line None (Some block) is refl) refl (omega arith))
  outside passed stream (other ∷ more) right is =
      again 1 (drivers_from None (map stated_of more)) _
      (outside (passed ++ stated_of other ∷ []) stream more (rest_right passed (stated_of other) _ right)
      (opens passed (stated_of other) None None is refl))

  -- lines in a block: as many as this block has sections, or a later one
  inside :
      (passed : List Stated) (block : OpenBlock) (stream : Stream) (sections : List (List SectionLine))
      (held : List SectionLine) (lines : List ToldLine)
      → AreFaulty passed (map stated_of lines) [] → open_after passed ≡ Some block
      → length sections + 1 ≡ block.sections → block.sections ≤ 64
      → drivers_for (block_to_run stream sections held lines)
      ≡ max block.sections (drivers_from (Some block) (map stated_of lines))
  inside passed block stream sections held [] right is count few =
      let long = one_longer sections held block.sections count in omega (arith, long, count)
  inside passed block stream sections held ((own, Some says.End) ∷ more) right is count few =
      let line = stated_of (own, Some says.End) in
      ended block.sections _ (drivers_from None (map stated_of more)) _
      (one_longer sections held block.sections count)
      (outside (passed ++ line ∷ []) stream more (rest_right passed line _ right)
      (opens passed line (Some block) None is refl))
  inside passed block stream sections held ((own, Some says.Also) ∷ more) right is count few =
      let line = stated_of (own, Some says.Also) in
      let room = has_room passed own.0 _ block right is in
      let long = one_longer sections held block.sections count in
      grown block.sections (with_section block).sections
      (drivers_from (Some (with_section block)) (map stated_of more)) _ (omega (arith, few))
      (inside (passed ++ line ∷ []) (with_section block) stream (sections ++ held ∷ []) [] more
      (rest_right passed line _ right) (opens passed line (Some block) (Some (with_section block)) is refl)
      (omega (arith, long, room, few)) (omega arith))
  inside passed block stream sections held
      ((before, Some (says.Words words)) ∷ (own, Some (says.Event event)) ∷ more) right is count few =
      let first = stated_of (before, Some (says.Words words)) in
      let second = stated_of (own, Some (says.Event event)) in
      again block.sections (max block.sections (drivers_from (Some block) (map stated_of more))) _
      (again block.sections (drivers_from (Some block) (map stated_of more)) _
      (inside ((passed ++ first ∷ []) ++ second ∷ []) block stream sections
      (held ++ section_line own (deed.Event event words) ∷ []) more
      (rest_right (passed ++ first ∷ []) second _ (rest_right passed first _ right))
      (opens (passed ++ first ∷ []) second (Some block) (Some block)
      (opens passed first (Some block) (Some block) is refl) refl) count few))
  inside passed block stream sections held ((own, Some (says.Event event)) ∷ more) right is count few =
      let line = stated_of (own, Some (says.Event event)) in
      again block.sections (drivers_from (Some block) (map stated_of more)) _
      (inside (passed ++ line ∷ []) block (later_words stream) sections
      (held ++ section_line own (deed.Event event (next_words stream)) ∷ []) more (rest_right passed line _ right)
      (opens passed line (Some block) (Some block) is refl) count few)
  inside passed block stream sections held ((own, Some (says.Analyse subject workers)) ∷ more) right is count few =
      let line = stated_of (own, Some (says.Analyse subject workers)) in
      again block.sections (drivers_from (Some block) (map stated_of more)) _
      (inside (passed ++ line ∷ []) block stream sections
      (held ++ section_line own (deed.Analyse subject.moment) ∷ []) more (rest_right passed line _ right)
      (opens passed line (Some block) (Some block) is refl) count few)
  inside passed block stream sections held (other ∷ more) right is count few =
      again block.sections (drivers_from (Some block) (map stated_of more)) _
      (inside (passed ++ stated_of other ∷ []) block stream sections held more
      (rest_right passed (stated_of other) _ right) (opens passed (stated_of other) (Some block) (Some block) is refl)
      count few)

-- ---- a file

same_lines : (lines : List (ℕ × List ℕ)) → map stated_of (told lines) ≡ map stated_at lines
same_lines [] = refl
same_lines (line ∷ more) = ap (λ ls. stated_at line ∷ ls) (same_lines more)

pub none_open : open_after [] ≡ None
unfolding open_from
none_open = refl

-- the lines of a file without a fault need as many drivers as the largest block among them
pub drivers_needed :
    (bytes : List ℕ) (stream : Stream) → AreFaultless (stated_lines bytes)
    → max 1 (drivers_from None (stated_lines bytes)) ≡ drivers_for (to_run stream (told (kept_lines bytes)))
unfolding stated_lines
drivers_needed bytes stream right =
    let same = same_lines (kept_lines bytes) in
    ap (λ ls. max 1 (drivers_from None ls)) (sym same)
    ∙ sym (outside [] stream (told (kept_lines bytes))
    (subst (λ (ls : List Stated). AreFaulty [] ls []) (sym same) right) none_open)

-- ---- line by line

-- the drivers so far, or those that the lines that are left need, are those that all lines need
abbrev pub NeedsSoFar : List Stated → ℕ → Option OpenBlock → List Stated → Type 0
NeedsSoFar all so_far block left = max so_far (drivers_from block left) ≡ max 1 (drivers_from None all)

pub needs_begun :
    (all left : List Stated) (so_far : ℕ) (block : Option OpenBlock) → left ≡ all → so_far ≡ 1 → block ≡ None
    → NeedsSoFar all so_far block left
needs_begun all left so_far block same one none =
    ap (λ n. max n (drivers_from block left)) one ∙ ap (λ b. max 1 (drivers_from b left)) none
    ∙ ap (λ ls. max 1 (drivers_from None ls)) same

pub needs_more :
    (all now later : List Stated) (line : Stated) (so_far then : ℕ) (block next : Option OpenBlock)
    → NeedsSoFar all so_far block now → now ≡ line ∷ later → open_next block line.number line.says ≡ next
    → then ≡ max so_far (sections_of next)
    → NeedsSoFar all then next later
unfolding drivers_from
needs_more all now later line so_far then block next before split opens is =
    let first = ap (λ ls. max so_far (drivers_from block ls)) (sym split) ∙ before in
    let known = subst (λ o. max so_far (max (sections_of o) (drivers_from o later))
    ≡ max 1 (drivers_from None all)) opens first in
    omega (arith, known, is)

pub all_needed :
    (all left : List Stated) (so_far : ℕ) (block : Option OpenBlock) → NeedsSoFar all so_far block left → left ≡ []
    → so_far ≡ max 1 (drivers_from None all)
unfolding drivers_from
all_needed all left so_far block before none =
    let last = ap (λ ls. max so_far (drivers_from block ls)) (sym none) ∙ before in omega (arith, last)

-- ---- lines to run

-- a block has no more sections than there are drivers for it and the lines after it
pub block_fits : (sections : List (List SectionLine)) (more : List Line)
    → length sections ≤ drivers_for (line.Together sections ∷ more)
unfolding drivers_for
block_fits sections more = omega arith

-- the lines after the first one need no more drivers than all
pub later_fit : (first : Line) (more : List Line) → drivers_for more ≤ drivers_for (first ∷ more)
unfolding drivers_for
later_fit (line.Event event words) more = omega arith
later_fit (line.Look look) more = omega arith
later_fit (line.Analyse subject workers) more = omega arith
later_fit (line.Together sections) more = omega arith
