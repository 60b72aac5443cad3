-- One more number, and all of them.
use Rattle.std.proofs.Common.{◌≤◌, List, ℕ, All, take_all, subst, arith}
use Rattle.std.proofs.lemmas.List.Elements.{All-more}
use Rattle.ov_certwriter.proofs.entry_rooms.largest.Goals as goal

pub loop-number-preserved : goal.loop-number-preserved
loop-number-preserved c =
    let l = c.loop-number in
    let most = c.max-largest.ensures in
    All-more (λ number. number ≤ c.max-largest.result) c.args.numbers.now l.number-index 0 c.loop-number-test.true
    (λ place d low. omega (arith, most, l.invariant place d low)) (omega (arith, most))

pub returns : goal.returns
returns c =
    let l = c.loop-number in
    subst (λ (xs : List ℕ). All (λ number. number ≤ l.largest) xs)
    (take_all l.number-index c.args.numbers.now c.loop-number-test.false) l.invariant
