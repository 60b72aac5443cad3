use Rattle.ov_split.proofs.FanTheorem.FanForm.{menger}
use Rattle.ov_split.proofs.menger_and_nearest_cut_theorems.menger.Goals as goal

pub returns : goal.returns
returns c = menger
