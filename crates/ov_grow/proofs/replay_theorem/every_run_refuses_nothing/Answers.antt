use Rattle.ov_grow.proofs.Replaying.{every_run_refuses_nothing}
use Rattle.ov_grow.proofs.replay_theorem.every_run_refuses_nothing.Goals as goal

pub returns : goal.returns
returns c = every_run_refuses_nothing
