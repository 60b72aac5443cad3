-- A line more, the line that ends the block, and no line.
use Rattle.std.proofs.Common.{rules, ◌≡◌, ◌∙◌, ◌∷◌, ◌++◌, [], false, ℕ, List, ap, refl, sym, subst}
use Rattle.ov_scenario.specs.RunLines.{outside_blocks}
use Rattle.ov_scenario.specs.Statements.{told}
use Rattle.ov_scenario.specs.Code.RunnableLines.{AreReadable, TakesIn, stream_now, to_run}
use Rattle.ov_scenario.specs.declared.scenario.Line.TheVariants as line
use Rattle.ov_scenario.proofs.Scenarios.InBlock.{goes_on, ends, ends_with_file}
use Rattle.ov_scenario.proofs.block_reading.read_sections.Goals as goal

pub loop-next-preserved : goal.loop-next-preserved
loop-next-preserved c =
    let own : ℕ × List ℕ = (c.in-Some.next.number, c.in-Some.next.text.now) in
    let later = c.next_line.new.self in
    let first : c.loop-next.rest ≡ own ∷ later = search rules in
    let before = stream_now c.loop-next.draws in
    let after = stream_now c.take.new.draws in
    let takes = subst (λ b. TakesIn before c.loop-next.block own b after c.take.new.self) c.if-branch.false
    c.in_ok-take.ensures in
    record {
      taken = goes_on _ _ _ _ _ _ _ _ _ _ _ _ _ _ c.loop-next.invariant.taken first takes.0 (takes.1 (told later));
      same = search rules;
    }

pub returns-then-branch-clause-outside : goal.returns-then-branch-clause-outside
returns-then-branch-clause-outside c =
    let own : ℕ × List ℕ = (c.in-Some.next.number, c.in-Some.next.text.now) in
    let later = c.next_line.new.self in
    let first : c.loop-next.rest ≡ own ∷ later = search rules in
    let before = stream_now c.loop-next.draws in
    let after = stream_now c.take.new.draws in
    let takes = subst (λ b. TakesIn before c.loop-next.block own b after c.take.new.self) c.if-branch.true
    c.in_ok-take.ensures in
    (ends _ _ _ _ _ _ _ _ _ _ _ _ c.loop-next.invariant.taken first takes.0 (takes.1 (told later))).1
    ∙ ap (λ ls. outside_blocks false ls) (sym c.copy.ensures)

pub returns-then-branch-clause-readable : goal.returns-then-branch-clause-readable
returns-then-branch-clause-readable c =
    let own : ℕ × List ℕ = (c.in-Some.next.number, c.in-Some.next.text.now) in
    let later = c.next_line.new.self in
    let first : c.loop-next.rest ≡ own ∷ later = search rules in
    let before = stream_now c.loop-next.draws in
    let after = stream_now c.take.new.draws in
    let takes = subst (λ b. TakesIn before c.loop-next.block own b after c.take.new.self) c.if-branch.true
    c.in_ok-take.ensures in
    λ are. subst AreReadable (sym c.copy.ensures)
    ((ends _ _ _ _ _ _ _ _ _ _ _ _ c.loop-next.invariant.taken first takes.0 (takes.1 (told later))).2 are)

pub returns-clause-sections : goal.returns-clause-sections
returns-clause-sections c =
    let none : c.loop-next.rest ≡ [] = search rules in
    let whole = c.end_section.new.self.ended.items in
    (ends_with_file _ _ _ _ _ _ whole _ c.loop-next.invariant.taken none c.in_ok-end_section.ensures.ended).0
    ∙ ap (λ ss. line.Together ss ∷ to_run (stream_now c.loop-next.draws) (told c.loop-next.rest))
    (sym c.sections-2.ensures)
    ∙ ap (λ ls. line.Together c.sections-2.result ∷ to_run (stream_now c.loop-next.draws) (told ls))
    (sym c.loop-next.invariant.same)

pub returns-clause-outside : goal.returns-clause-outside
returns-clause-outside c =
    let none : c.loop-next.rest ≡ [] = search rules in
    let ended = c.loop-next.block.ended.items in
    let held = c.loop-next.block.held.items in
    (ends_with_file _ _ _ _ _ _ (ended ++ held ∷ []) _ c.loop-next.invariant.taken none refl).1
    ∙ ap (λ ls. outside_blocks false ls) (sym c.loop-next.invariant.same)
