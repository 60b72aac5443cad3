use Rattle.ov_split.proofs.FanTheorem.Sole.{one_nearest_cut}
use Rattle.ov_split.proofs.menger_and_nearest_cut_theorems.one_nearest_cut.Goals as goal

pub returns : goal.returns
returns c = one_nearest_cut
