-- One section more, and all of them.
use Rattle.std.proofs.Common.{◌≡◌, ◌∙◌, ◌+◌, [], ◌∷◌, ap, arith, drop, sym}
use Rattle.std.proofs.Math.ListN.{drop_of_length-le}
use Rattle.std.proofs.lemmas.Grind.{common_steps}
use Rattle.ov_run.specs.Code.Jobs.{joined}
use Rattle.ov_run.specs.Code.Outcomes.{first_refused, or_else}
use Rattle.ov_run.proofs.Printing.Settling.{first_append}
use Rattle.ov_run.proofs.line_outcome.first_refused.Goals as goal

pub loop-section-preserved : goal.loop-section-preserved
loop-section-preserved c =
    let i = c.loop-section.section-index in
    let told = c.args.told.now in
    let own = c.section-item.result in
    let left = drop (i + 1) told in
    let next : drop i told ≡ own ∷ left = grind (arith, common_steps) in
    ap (λ r. or_else r (first_refused (joined left))) (c.in_default.ensures ∙ ap first_refused c.as_slice.ensures)
    ∙ sym (first_append own (joined left))
    ∙ sym (ap (λ l. first_refused (joined l)) next)
    ∙ c.loop-section.invariant

pub returns-in-Some : goal.returns-in-Some
returns-in-Some c =
    let i = c.loop-section.section-index in
    let told = c.args.told.now in
    let own = c.section-item.result in
    let left = drop (i + 1) told in
    let next : drop i told ≡ own ∷ left = grind (arith, common_steps) in
    ap (λ r. or_else r (first_refused (joined left))) (c.in-Some.ensures ∙ ap first_refused c.as_slice.ensures)
    ∙ sym (first_append own (joined left))
    ∙ sym (ap (λ l. first_refused (joined l)) next)
    ∙ c.loop-section.invariant

pub returns : goal.returns
returns c =
    let none : drop c.loop-section.section-index c.args.told.now ≡ [] =
    drop_of_length-le c.args.told.now (omega arith) in
    sym (ap (λ l. first_refused (joined l)) none) ∙ c.loop-section.invariant
