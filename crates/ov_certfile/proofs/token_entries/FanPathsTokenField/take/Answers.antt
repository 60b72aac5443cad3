-- The members, one after another, are those of the entry.
use Rattle.ov_certfile.specs.DataOf.{fan_data}
use Rattle.ov_certfile.proofs.Taking.{then_taken, object_taken}
use Rattle.ov_certfile.proofs.token_entries.FanPathsTokenField.take.Goals as goal

pub returns-clause-taken : goal.returns-clause-taken
unfolding fan_data
returns-clause-taken c =
    object_taken _ _ _ _ _ c.in_ok-begin_object.ensures
    (then_taken _ _ _ _ _ c.in_ok-j.ensures.taken c.in_ok-paths.ensures.taken) c.in_ok-end_object.ensures
