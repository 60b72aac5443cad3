use Rattle.ov_dot.proofs.OneCut.{one_reading}
use Rattle.ov_dot.proofs.unique_tokens_theorems.one_reading.Goals as goal

pub returns : goal.returns
returns c = one_reading
