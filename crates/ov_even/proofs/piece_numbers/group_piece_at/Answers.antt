use Rattle.std.proofs.Common.{◌+◌, ◌-◌, ◌<◌, ◌≤◌, ℕ, length, slice_get, refl, sym, ap, ◌∙◌, arith}
use Rattle.ov_even.specs.Code.Levels.{pieces_of_level, levels_behind}
use Rattle.ov_even.proofs.PieceNumbers.AllLevels.{length_ahead, level_left, place_ahead, place_behind}
use Rattle.ov_even.proofs.PieceNumbers.Numbering.{more_than, there_numbered}
use Rattle.ov_even.proofs.piece_numbers.group_piece_at.Goals as goal

pub loop-size-init : goal.loop-size-init
loop-size-init c = record {
  low = omega arith;
  size = c.level_size-size.ensures;
  below = more_than c.args.nodes c.args.members c.args.number c.requires.below;
  there = refl;
}

pub overflow_add-level : goal.overflow_add-level
overflow_add-level c =
    let l = c.loop-size in
    omega (arith, level_left c.args.nodes c.args.members l.level l.left l.invariant.below)

pub loop-size-smaller : goal.loop-size-smaller
loop-size-smaller c =
    let l = c.loop-size in
    omega (arith, level_left c.args.nodes c.args.members l.level l.left l.invariant.below)

pub loop-size-preserved : goal.loop-size-preserved
loop-size-preserved c =
    let l = c.loop-size in
    let n = c.args.nodes in
    let m = c.args.members in
    let below = l.invariant.below in
    let size = l.invariant.size in
    let low = l.invariant.low in
    let high = level_left n m l.level l.left below in
    let behind : length (pieces_of_level m l.level) ≤ l.left = omega (arith, size) in
    let next = levels_behind m (l.level + 1 - 1) (n - (l.level + 1)) in
    record {
      low = omega arith;
      size = c.level_size-size-in-loop-size.ensures;
      below = omega (arith, size, below, length_ahead n m l.level low high);
      there = ap (λ (x : ℕ). slice_get next (l.left - x)) size
          ∙ sym (place_behind n m l.level l.left low high behind) ∙ l.invariant.there;
    }

pub piece_in_level-requires-clause-high : goal.piece_in_level-requires-clause-high
piece_in_level-requires-clause-high c =
    let l = c.loop-size in
    omega (arith, level_left c.args.nodes c.args.members l.level l.left l.invariant.below)

pub returns : goal.returns
returns c =
    let l = c.loop-size in
    let n = c.args.nodes in
    let m = c.args.members in
    let high = level_left n m l.level l.left l.invariant.below in
    let size = l.invariant.size in
    let within : l.left < length (pieces_of_level m l.level) = omega (arith, size) in
    there_numbered n m c.args.number c.piece_in_level.result
    (sym l.invariant.there ∙ place_ahead n m l.level l.left l.invariant.low high within ∙ c.piece_in_level.ensures)
