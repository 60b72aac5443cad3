use Rattle.ov_scatter.proofs.Matched.{keeps_number}
use Rattle.ov_scatter.proofs.renaming_theorem.renaming_keeps_number.Goals as goal

pub returns : goal.returns
returns c = keeps_number
