use Rattle.std.proofs.Common.{rules}
use Rattle.ov_peer.proofs.Handed.{few_walked, walked}
use Rattle.ov_peer.proofs.hyparview_message_dispatch.walk.Goals as goal

pub returns-in-ForwardJoin-clause-allowed : goal.returns-in-ForwardJoin-clause-allowed
returns-in-ForwardJoin-clause-allowed c = walked _ _ _ _ _ _ _ c.in-ForwardJoin.is (search rules)

pub returns-in-Shuffle-clause-allowed : goal.returns-in-Shuffle-clause-allowed
returns-in-Shuffle-clause-allowed c =
    walked _ _ _ _ _ _ _ c.in-Shuffle.is (rw c.as_slice.ensures at c.walk-in-Shuffle.ensures.allowed)

pub returns-in-ForwardJoin-clause-sendable : goal.returns-in-ForwardJoin-clause-sendable
returns-in-ForwardJoin-clause-sendable c = few_walked _ c.walk.ensures.few c.walk.ensures.ranges

pub returns-in-Shuffle-clause-sendable : goal.returns-in-Shuffle-clause-sendable
returns-in-Shuffle-clause-sendable c = few_walked _ c.walk-in-Shuffle.ensures.few c.walk-in-Shuffle.ensures.ranges
