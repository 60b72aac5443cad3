use Rattle.ov_dot.proofs.Refusing.{same_saying}
use Rattle.ov_dot.proofs.same_tokens_theorem.one_saying.Goals as goal

pub returns : goal.returns
returns c = same_saying
