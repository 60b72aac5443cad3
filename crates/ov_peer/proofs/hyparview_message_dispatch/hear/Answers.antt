use Rattle.std.proofs.Common.{rules}
use Rattle.ov_peer.proofs.Handed.{with_views, with_attempt, with_sent}
use Rattle.ov_peer.proofs.hyparview_message_dispatch.hear.Goals as goal

pub returns-in-Join-clause-allowed : goal.returns-in-Join-clause-allowed
returns-in-Join-clause-allowed c = with_views _ _ _ _ _ _ _ _ _ _ c.in-Join.is (search rules)

pub returns-in-ForwardJoin-clause-allowed : goal.returns-in-ForwardJoin-clause-allowed
returns-in-ForwardJoin-clause-allowed c = with_views _ _ _ _ _ _ _ _ _ _ c.in-ForwardJoin.is (search rules)

pub returns-in-Joined-clause-allowed : goal.returns-in-Joined-clause-allowed
returns-in-Joined-clause-allowed c = with_views _ _ _ _ _ _ _ _ _ _ c.in-Joined.is (search rules)

pub returns-in-Neighbor-clause-allowed : goal.returns-in-Neighbor-clause-allowed
returns-in-Neighbor-clause-allowed c = with_views _ _ _ _ _ _ _ _ _ _ c.in-Neighbor.is (search rules)

pub returns-in-Disconnect-clause-allowed : goal.returns-in-Disconnect-clause-allowed
returns-in-Disconnect-clause-allowed c = with_attempt _ _ _ _ _ _ _ _ _ _ _ c.in-Disconnect.is (search rules)

pub returns-in-NeighborReply-clause-allowed : goal.returns-in-NeighborReply-clause-allowed
returns-in-NeighborReply-clause-allowed c = with_attempt _ _ _ _ _ _ _ _ _ _ _ c.in-NeighborReply.is (search rules)

pub returns-in-Shuffle-clause-allowed : goal.returns-in-Shuffle-clause-allowed
returns-in-Shuffle-clause-allowed c =
    with_views _ _ _ _ _ _ _ _ _ _ c.in-Shuffle.is (rw c.as_slice.ensures at c.on_shuffle.ensures.allowed)

pub returns-in-ShuffleReply-clause-allowed : goal.returns-in-ShuffleReply-clause-allowed
returns-in-ShuffleReply-clause-allowed c =
    with_sent _ _ _ _ _ _ _ _ _ _ c.in-ShuffleReply.is
    (rw c.as_slice-in-ShuffleReply.ensures at c.on_reply-in-ShuffleReply.ensures.allowed)
