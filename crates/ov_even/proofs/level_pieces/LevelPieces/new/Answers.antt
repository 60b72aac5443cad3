use Rattle.std.proofs.Common.{◌∙◌, sym}
use Rattle.ov_even.proofs.PieceNumbers.LevelSteps.{all_from_second}
use Rattle.ov_even.proofs.level_pieces.LevelPieces.new.Goals as goal

pub returns : goal.returns
returns c = c.from_column.ensures ∙ sym (all_from_second c.args.m c.args.level c.requires.low)
