use Rattle.std.proofs.Common.{◌≡◌, ◌+◌, ◌-◌, ◌≤◌, Some, slice_get, sym, ap, ◌∙◌, arith}
use Rattle.ov_even.specs.Code.Levels.{pieces_of_level, pairs_among}
use Rattle.ov_even.proofs.PieceNumbers.LevelPlaces.{pair_placed, fan_placed, pair_member, fan_member}
use Rattle.ov_even.proofs.level_pieces.piece_in_level.Goals as goal

pub returns-then-place-pairs : goal.returns-then-place-pairs
returns-then-place-pairs c =
    let m = c.args.m in
    let level = c.args.level in
    let r = c.pair_at.ensures in
    let some : 1 ≤ r.j = omega arith in
    let member = pair_member m level c.args.place r.i r.j c.requires.below r.there r.among some in
    ap (slice_get (pieces_of_level m level)) r.there ∙ pair_placed m level r.i r.j r.first r.less r.among member
    ∙ ap Some (sym r.is)

pub overflow_add-later : goal.overflow_add-later
overflow_add-later c =
    let e = c.pair_count-pairs.ensures.count in
    omega (arith, e, fan_member c.args.m c.args.level c.args.place c.requires.below (omega arith))

pub overflow_cast-result-2 : goal.overflow_cast-result-2
overflow_cast-result-2 c =
    let e = c.pair_count-pairs.ensures.count in
    omega (arith, e, fan_member c.args.m c.args.level c.args.place c.requires.below (omega arith))

pub overflow_add-result : goal.overflow_add-result
overflow_add-result c =
    let e = c.pair_count-pairs.ensures.count in
    omega (arith, e, fan_member c.args.m c.args.level c.args.place c.requires.below (omega arith))

pub returns : goal.returns
returns c =
    let m = c.args.m in
    let level = c.args.level in
    let place = c.args.place in
    let e = c.pair_count-pairs.ensures.count in
    let later = level + (place - c.pair_count-pairs.result) in
    let behind : pairs_among level ≤ place = omega arith in
    let member = fan_member m level place c.requires.below behind in
    let there : place ≡ pairs_among level + (later + 1 - level - 1) = omega arith in
    ap (slice_get (pieces_of_level m level)) there ∙ fan_placed m level (later + 1) (omega arith) (omega arith)
