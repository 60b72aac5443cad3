use Rattle.ov_fans.proofs.PieceCuts.Only.{same_cut}
use Rattle.ov_fans.proofs.piece_result_theorems.same_cut.Goals as goal

pub returns : goal.returns
returns c = same_cut
