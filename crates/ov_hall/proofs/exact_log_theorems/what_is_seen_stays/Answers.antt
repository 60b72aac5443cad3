use Rattle.ov_hall.proofs.Seen as seen
use Rattle.ov_hall.proofs.exact_log_theorems.what_is_seen_stays.Goals as goal

pub returns : goal.returns
returns c = seen.what_is_seen_stays
