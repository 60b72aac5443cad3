-- The lines of one section more, and those of all sections.
use Rattle.std.proofs.Common.{◌≡◌, ◌+◌, [], ◌∷◌, ap, arith, drop}
use Rattle.std.proofs.Math.ListN.{drop_of_length-le}
use Rattle.std.proofs.lemmas.Grind.{common_steps}
use Rattle.ov_run.specs.Code.Jobs.{joined}
use Rattle.ov_run_meaning.specs.Sections.{accepted_in, refused_in}
use Rattle.ov_run.proofs.Blocks.Counting.{accepted_joined, refused_joined}
use Rattle.ov_run.proofs.sections_at_once.counted.Goals as goal

pub loop-own-preserved : goal.loop-own-preserved
loop-own-preserved c =
    let i = c.loop-own.invariant in
    let told = c.args.told.now in
    let at = c.loop-own.own-index in
    let own = c.own-item.result in
    let left = drop (at + 1) told in
    let next : drop at told ≡ own ∷ left = grind (arith, common_steps) in
    let lines = c.as_slice-lines.ensures in
    let done = c.count_accepted-done.ensures in
    let a = c.with_own-accepted.ensures in
    let b = c.with_own-refused.ensures in
    record {
      accepted = omega (
        arith,
        ap (λ l. accepted_in (joined l)) next,
        accepted_joined own left,
        ap accepted_in lines,
        done.accepted,
        a.sum,
        i.accepted,
      );
      refused = omega (
        arith,
        ap (λ l. refused_in (joined l)) next,
        refused_joined own left,
        ap refused_in lines,
        done.others,
        b.sum,
        i.refused,
      );
      few_accepted = omega (arith, a.sum, a.few, i.few_accepted);
      few_refused = omega (arith, b.sum, b.few, i.few_refused);
    }

pub returns-clause-accepted : goal.returns-clause-accepted
returns-clause-accepted c =
    let none : drop c.loop-own.own-index c.args.told.now ≡ [] = drop_of_length-le c.args.told.now (omega arith) in
    omega (arith, ap (λ l. accepted_in (joined l)) none, c.loop-own.invariant.accepted)

pub returns-clause-refused : goal.returns-clause-refused
returns-clause-refused c =
    let none : drop c.loop-own.own-index c.args.told.now ≡ [] = drop_of_length-le c.args.told.now (omega arith) in
    omega (arith, ap (λ l. refused_in (joined l)) none, c.loop-own.invariant.refused)
