use Rattle.std.proofs.Common.{◌∙◌, sym, arith}
use Rattle.ov_even.proofs.PieceNumbers.LevelPlaces.{length_level_low, length_level_high}
use Rattle.ov_even.proofs.level_pieces.level_size.Goals as goal

pub returns-then-level-m : goal.returns-then-level-m
returns-then-level-m c =
    omega (arith, c.pair_count.ensures.count, length_level_high c.args.m c.args.level (omega arith))

pub returns-else-level-m : goal.returns-else-level-m
returns-else-level-m c =
    c.pair_count-else-level-m.ensures.count ∙ sym (length_level_low c.args.m c.args.level (omega arith))
