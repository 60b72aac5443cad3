-- One line more, and all of them.
use Rattle.std.proofs.Common.{◌≡◌, ◌+◌, [], ◌∷◌, ap, arith, drop}
use Rattle.std.proofs.Math.ListN.{drop_of_length-le}
use Rattle.std.proofs.lemmas.Grind.{common_steps}
use Rattle.ov_run_meaning.specs.Sections.{accepted_in}
use Rattle.ov_run.proofs.Blocks.Counting.{both_kinds, one_most}
use Rattle.ov_run.proofs.line_outcome.count_accepted.Goals as goal

pub loop-line-preserved : goal.loop-line-preserved
loop-line-preserved c =
    let i = c.loop-line.line-index in
    let told = c.args.told.now in
    let next : drop i told ≡ c.line-item.result ∷ drop (i + 1) told = grind (arith, common_steps) in
    let own = c.one_accepted-accepted.ensures in
    record {
      accepted = omega (arith, ap accepted_in next, own, c.loop-line.invariant.accepted);
      few = omega (arith, own, one_most c.line-item.result.outcome, c.loop-line.invariant.few);
    }

pub returns-clause-accepted : goal.returns-clause-accepted
returns-clause-accepted c =
    let none : drop c.loop-line.line-index c.args.told.now ≡ [] = drop_of_length-le c.args.told.now (omega arith) in
    omega (arith, ap accepted_in none, c.loop-line.invariant.accepted)

pub returns-clause-others : goal.returns-clause-others
returns-clause-others c =
    let none : drop c.loop-line.line-index c.args.told.now ≡ [] = drop_of_length-le c.args.told.now (omega arith) in
    omega (arith, ap accepted_in none, c.loop-line.invariant.accepted, both_kinds c.args.told.now)
