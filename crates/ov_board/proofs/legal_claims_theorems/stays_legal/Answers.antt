use Rattle.ov_board.proofs.Staying.{stays_legal}
use Rattle.ov_board.proofs.legal_claims_theorems.stays_legal.Goals as goal

pub returns : goal.returns
returns c = stays_legal
