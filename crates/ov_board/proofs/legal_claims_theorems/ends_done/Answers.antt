use Rattle.ov_board.proofs.Ending.{ends_done}
use Rattle.ov_board.proofs.legal_claims_theorems.ends_done.Goals as goal

pub returns : goal.returns
returns c = ends_done
