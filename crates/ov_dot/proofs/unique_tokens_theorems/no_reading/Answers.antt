use Rattle.ov_dot.proofs.OneCut.{no_reading}
use Rattle.ov_dot.proofs.unique_tokens_theorems.no_reading.Goals as goal

pub returns : goal.returns
returns c = no_reading
