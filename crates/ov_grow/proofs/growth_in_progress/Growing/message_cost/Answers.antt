use Rattle.ov_grow.proofs.Counting.{cost_is}
use Rattle.ov_grow.proofs.growth_in_progress.Growing.message_cost.Goals as goal

pub returns : goal.returns
returns c = λ marks counts. cost_is _ _ marks c.args.id c.in_ok-reached.reached c.args.counts c.in_ok-reached.ensures
    counts
