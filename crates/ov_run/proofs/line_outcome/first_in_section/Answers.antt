-- One line more, and all of them.
use Rattle.std.proofs.Common.{◌≡◌, ◌∙◌, ◌+◌, [], ◌∷◌, ap, arith, drop, sym}
use Rattle.std.proofs.Math.ListN.{drop_of_length-le}
use Rattle.std.proofs.lemmas.Grind.{common_steps}
use Rattle.ov_run.specs.Code.Outcomes.{first_refused, or_else}
use Rattle.ov_run.proofs.line_outcome.first_in_section.Goals as goal

pub loop-one-preserved : goal.loop-one-preserved
loop-one-preserved c =
    let i = c.loop-one.one-index in
    let told = c.args.told.now in
    let left = drop (i + 1) told in
    let next : drop i told ≡ c.one-item.result ∷ left = grind (arith, common_steps) in
    ap (λ r. or_else r (first_refused left)) c.in_default.ensures ∙ sym (ap first_refused next) ∙ c.loop-one.invariant

pub returns-in-Some : goal.returns-in-Some
returns-in-Some c =
    let i = c.loop-one.one-index in
    let told = c.args.told.now in
    let left = drop (i + 1) told in
    let next : drop i told ≡ c.one-item.result ∷ left = grind (arith, common_steps) in
    ap (λ r. or_else r (first_refused left)) c.in-Some.ensures ∙ sym (ap first_refused next) ∙ c.loop-one.invariant

pub returns : goal.returns
returns c =
    let none : drop c.loop-one.one-index c.args.told.now ≡ [] = drop_of_length-le c.args.told.now (omega arith) in
    sym (ap first_refused none) ∙ c.loop-one.invariant
