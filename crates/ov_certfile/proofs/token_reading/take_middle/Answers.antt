-- One member after another.
use Rattle.ov_certfile.proofs.Taking.{then_taken}
use Rattle.ov_certfile.proofs.token_reading.take_middle.Goals as goal

pub returns-clause-members : goal.returns-clause-members
returns-clause-members c =
    then_taken _ _ _ _ _ c.in_ok-group.ensures.members
    (then_taken _ _ _ _ _ c.in_ok-k.ensures.taken
    (then_taken _ _ _ _ _ c.in_ok-links.ensures.taken c.in_ok-moment.ensures.taken))
