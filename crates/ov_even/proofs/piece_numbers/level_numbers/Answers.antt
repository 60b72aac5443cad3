-- The pieces of one lower level more.
use Rattle.std.proofs.Common.{◌≡◌, ◌∙◌, ◌+◌, ◌-◌, ◌<◌, refl, ap, length, ℕ, arith}
use Rattle.ov_even.specs.Code.Levels.{levels_behind}
use Rattle.ov_even.proofs.PieceNumbers.ByLevel.{numbers_of_level, level_small, level_longer, level_more}
use Rattle.ov_even.proofs.piece_numbers.level_numbers.Goals as goal

pub loop-lower-init : goal.loop-lower-init
unfolding levels_behind
loop-lower-init c = record { low = omega arith; first = refl }

pub overflow_add-first : goal.overflow_add-first
overflow_add-first c =
    let l = c.loop-lower in
    let n = c.args.nodes in
    let m = c.args.members in
    let first = l.invariant.first in
    let size = c.level_size-first.ensures in
    let high = c.requires.high in
    let here = c.loop-lower-test.true in
    let below : l.lower < n = omega (arith, here, high) in
    let small = level_small n m l.lower c.requires.nodes c.requires.members l.invariant.low below in
    omega (arith, first, size, small)

pub loop-lower-preserved : goal.loop-lower-preserved
loop-lower-preserved c =
    let l = c.loop-lower in
    let first = l.invariant.first in
    let size = c.level_size-first.ensures in
    let low = l.invariant.low in
    record { low = omega (arith, low); first = omega (arith, first, size, level_more c.args.members l.lower low) }

pub overflow_add-result : goal.overflow_add-result
overflow_add-result c =
    let l = c.loop-lower in
    let n = c.args.nodes in
    let m = c.args.members in
    let end = l.auto.lower-end in
    let past = c.loop-lower-test.false in
    let reached : l.lower ≡ c.args.level = omega (arith, end, past) in
    let first = l.invariant.first ∙ ap (λ (x : ℕ). length (levels_behind m 0 (x - 1))) reached in
    let before = c.level_size-before.ensures in
    let less = level_longer m c.args.level c.args.done c.requires.done in
    let small = level_small n m c.args.level c.requires.nodes c.requires.members c.requires.low c.requires.high in
    omega (arith, first, before, less, small)

pub overflow_sub-result : goal.overflow_sub-result
overflow_sub-result c =
    let size = c.level_size-size.ensures in
    let before = c.level_size-before.ensures in
    let less = level_longer c.args.members c.args.level c.args.done c.requires.done in
    omega (arith, size, before, less)

pub returns-clause-numbers : goal.returns-clause-numbers
returns-clause-numbers c =
    let l = c.loop-lower in
    let m = c.args.members in
    let end = l.auto.lower-end in
    let past = c.loop-lower-test.false in
    let reached : l.lower ≡ c.args.level = omega (arith, end, past) in
    let first = l.invariant.first ∙ ap (λ (x : ℕ). length (levels_behind m 0 (x - 1))) reached in
    let size = c.level_size-size.ensures in
    let before = c.level_size-before.ensures in
    let less = level_longer m c.args.level c.args.done c.requires.done in
    numbers_of_level c.args.nodes m c.args.level c.args.done (l.first + c.level_size-before.result)
    (c.level_size-size.result - c.level_size-before.result) c.requires.low c.requires.high c.requires.done
    (omega (arith, first, before)) (omega (arith, first, size, before, less))

pub returns-clause-small : goal.returns-clause-small
returns-clause-small c =
    let l = c.loop-lower in
    let n = c.args.nodes in
    let m = c.args.members in
    let end = l.auto.lower-end in
    let past = c.loop-lower-test.false in
    let reached : l.lower ≡ c.args.level = omega (arith, end, past) in
    let first = l.invariant.first ∙ ap (λ (x : ℕ). length (levels_behind m 0 (x - 1))) reached in
    let size = c.level_size-size.ensures in
    let before = c.level_size-before.ensures in
    let less = level_longer m c.args.level c.args.done c.requires.done in
    let small = level_small n m c.args.level c.requires.nodes c.requires.members c.requires.low c.requires.high in
    omega (arith, first, size, before, less, small)
