use Rattle.ov_net.proofs.OneStep.OfWorld.{one_step}
use Rattle.ov_net.proofs.journal_and_step_theorems.one_step.Goals as goal

pub returns : goal.returns
returns c = one_step
