use Rattle.ov_fans.proofs.PieceCuts.Decided.{decides}
use Rattle.ov_fans.proofs.piece_result_theorems.right_decides.Goals as goal

pub returns : goal.returns
returns c = decides
