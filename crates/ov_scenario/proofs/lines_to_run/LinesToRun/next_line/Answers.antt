-- A line that asks for none, one that asks for one, and no line.
use Rattle.std.proofs.Common.{rules, ◌≡◌, ◌∙◌, [], ◌∷◌, sym, subst}
use Rattle.ov_scenario.specs.RunLines.{those_that_run, FirstNeedsMemory}
use Rattle.ov_scenario.specs.Statements.{told}
use Rattle.ov_scenario.specs.Code.RunnableLines.{block_to_run, stream_now, to_run}
use Rattle.ov_scenario.specs.declared.scenario.Line.TheVariants as lines
use Rattle.ov_scenario.proofs.Scenarios.Asked.{passed, taken, block_taken, ended}
use Rattle.ov_scenario.proofs.Scenarios.Readable.{lacking, later_readable, block_lacking}
use Rattle.ov_scenario.proofs.lines_to_run.LinesToRun.next_line.Goals as goal

pub loop-number-preserved : goal.loop-number-preserved
loop-number-preserved c =
    let line = c.in-Some.field-0 in
    let first : c.loop-number.left ≡ (line.number, line.text.now) ∷ c.next_line.new.self = search rules in
    let old = c.args.self.now in
    let kept = c.loop-number.self-inside.left in
    record {
      left =
          passed _ _ _ _ _ _ _ _ _ _ _ _ c.loop-number.invariant.left first (search rules)
          (sym c.is_together.ensures ∙ c.if-is_together.false) c.in_default-line_of.is c.line_of.ensures;
      readable = later_readable _ _ _ _ c.loop-number.invariant.readable first;
      kept = c.loop-number.invariant.kept;
      same =
          subst (λ s. record { items = to_run s (told kept); file_lines = those_that_run kept } ≡ old)
          (sym c.in_default-line_of.ensures.0) c.loop-number.invariant.same;
    }

pub invariant_of-self-in-Some-line_of : goal.invariant_of-self-in-Some-line_of
invariant_of-self-in-Some-line_of c =
    let line = c.in-Some.field-0 in
    let first : c.loop-number.left ≡ (line.number, line.text.now) ∷ c.next_line.new.self = search rules in
    later_readable _ _ _ _ c.loop-number.invariant.readable first

pub returns-in_err-stated-clause-memory : goal.returns-in_err-stated-clause-memory
returns-in_err-stated-clause-memory c =
    let line = c.in-Some.field-0 in
    let first : c.loop-number.left ≡ (line.number, line.text.now) ∷ c.next_line.new.self = search rules in
    let needs : FirstNeedsMemory c.args.self.now.items =
    lacking _ _ _ _ _ _ _ _ c.loop-number.invariant.left c.loop-number.invariant.readable first
    c.in_err-stated.ensures.memory in
    search (rules, needs)

-- the lines of a file behind a block, which can be read
pub invariant_of-self-then-is_together : goal.invariant_of-self-then-is_together
invariant_of-self-then-is_together c =
    let line = c.in-Some.field-0 in
    let first : c.loop-number.left ≡ (line.number, line.text.now) ∷ c.next_line.new.self = search rules in
    c.in_ok-read_sections.ensures.readable (later_readable _ _ _ _ c.loop-number.invariant.readable first)

pub returns-in_err-draws-clause-memory : goal.returns-in_err-draws-clause-memory
returns-in_err-draws-clause-memory c =
    let line = c.in-Some.field-0 in
    let first : c.loop-number.left ≡ (line.number, line.text.now) ∷ c.next_line.new.self = search rules in
    let needs : FirstNeedsMemory c.args.self.now.items =
    block_lacking _ _ _ _ _ _ _ _ _ c.loop-number.invariant.left first (search rules)
    (sym c.is_together.ensures ∙ c.if-is_together.true) in
    search (rules, needs)

pub returns-in_err-read_sections-clause-memory : goal.returns-in_err-read_sections-clause-memory
returns-in_err-read_sections-clause-memory c =
    let line = c.in-Some.field-0 in
    let first : c.loop-number.left ≡ (line.number, line.text.now) ∷ c.next_line.new.self = search rules in
    let needs : FirstNeedsMemory c.args.self.now.items =
    block_lacking _ _ _ _ _ _ _ _ _ c.loop-number.invariant.left first (search rules)
    (sym c.is_together.ensures ∙ c.if-is_together.true) in
    search (rules, needs)

pub returns-then-is_together-clause-line : goal.returns-then-is_together-clause-line
returns-then-is_together-clause-line c =
    let line = c.in-Some.field-0 in
    let first : c.loop-number.left ≡ (line.number, line.text.now) ∷ c.next_line.new.self = search rules in
    let later = c.next_line.new.self in
    let behind = c.read_sections.new.left in
    let after = stream_now c.read_sections.new.draws in
    let sections = c.in_ok-read_sections.field-0 in
    let runs_as = subst
    (λ d. block_to_run (stream_now d) [] [] (told later) ≡ lines.Together sections ∷ to_run after (told behind))
    c.in_ok-draws.ensures c.in_ok-read_sections.ensures.sections in
    (block_taken _ _ _ _ _ _ _ _ _ _ _ _ c.loop-number.invariant.left first (search rules)
    (sym c.is_together.ensures ∙ c.if-is_together.true) runs_as c.in_ok-read_sections.ensures.outside).0

pub returns-then-is_together-clause-file_line : goal.returns-then-is_together-clause-file_line
returns-then-is_together-clause-file_line c =
    let line = c.in-Some.field-0 in
    let first : c.loop-number.left ≡ (line.number, line.text.now) ∷ c.next_line.new.self = search rules in
    let later = c.next_line.new.self in
    let behind = c.read_sections.new.left in
    let after = stream_now c.read_sections.new.draws in
    let sections = c.in_ok-read_sections.field-0 in
    let runs_as = subst
    (λ d. block_to_run (stream_now d) [] [] (told later) ≡ lines.Together sections ∷ to_run after (told behind))
    c.in_ok-draws.ensures c.in_ok-read_sections.ensures.sections in
    (block_taken _ _ _ _ _ _ _ _ _ _ _ _ c.loop-number.invariant.left first (search rules)
    (sym c.is_together.ensures ∙ c.if-is_together.true) runs_as c.in_ok-read_sections.ensures.outside).1

pub returns-in-Some-line_of-clause-line : goal.returns-in-Some-line_of-clause-line
returns-in-Some-line_of-clause-line c =
    let line = c.in-Some.field-0 in
    let first : c.loop-number.left ≡ (line.number, line.text.now) ∷ c.next_line.new.self = search rules in
    (taken _ _ _ _ _ _ _ _ _ _ _ _ _ c.loop-number.invariant.left first (search rules)
    (sym c.is_together.ensures ∙ c.if-is_together.false) c.in-Some-line_of.is c.line_of.ensures).0

pub returns-in-Some-line_of-clause-file_line : goal.returns-in-Some-line_of-clause-file_line
returns-in-Some-line_of-clause-file_line c =
    let line = c.in-Some.field-0 in
    let first : c.loop-number.left ≡ (line.number, line.text.now) ∷ c.next_line.new.self = search rules in
    (taken _ _ _ _ _ _ _ _ _ _ _ _ _ c.loop-number.invariant.left first (search rules)
    (sym c.is_together.ensures ∙ c.if-is_together.false) c.in-Some-line_of.is c.line_of.ensures).1

pub returns-clause-line : goal.returns-clause-line
returns-clause-line c = (ended _ _ _ _ _ c.loop-number.invariant.left (search rules)).0

pub returns-clause-file_line : goal.returns-clause-file_line
returns-clause-file_line c = (ended _ _ _ _ _ c.loop-number.invariant.left (search rules)).1
