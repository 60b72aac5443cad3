use Rattle.std.proofs.Common.{◌∙◌, sym}
use Rattle.ov_hall.proofs.Counting.{splits_all}
use Rattle.ov_hall.proofs.locked_state.State.nobody.Goals as goal

pub split_seat-requires : goal.split_seat-requires
split_seat-requires g c = (c.self.invariant.0 ∙ sym c.requires.count.0, c.requires.count.1, splits_all _ _)
