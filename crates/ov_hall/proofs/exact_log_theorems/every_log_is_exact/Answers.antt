use Rattle.ov_hall.proofs.Exact as exact
use Rattle.ov_hall.proofs.exact_log_theorems.every_log_is_exact.Goals as goal

pub returns : goal.returns
returns c = exact.every_log_is_exact
