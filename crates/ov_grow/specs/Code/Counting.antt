-- How the code counts what broadcasts cost: mark by mark, node by node, and broadcast by broadcast.
use Rattle.std.specs.Prelude.{ℕ, ◌+◌, max, Bool, false, List, [], ◌∷◌, Option, Some, None, unwrap_or, is_some}
use Rattle.std.specs.Prelude.{if◌then◌else◌}
use Rattle.std.specs.BTreeMap.{BTreeMap, get}
use Rattle.ov_ids.specs.declared.id.MsgId.{MsgId}
use Rattle.ov_plum.specs.Ids.{id_cmp}
use Rattle.ov_net.specs.Net.{Net}
use Rattle.ov_grow.specs.MessageCosts.{is_gossip, is_graft, is_ihave, round_at, same_id}
use Rattle.ov_grow.specs.declared.broadcast_log.BroadcastMark.{BroadcastMark}
use Rattle.ov_grow.specs.declared.broadcast_log.BroadcastMark.TheVariants.{Made, Prune}
use Rattle.ov_grow.specs.declared.message_cost.CountedKind.{CountedKind}
use Rattle.ov_grow.specs.declared.message_cost.CountedKind.TheVariants as kind
use Rattle.ov_grow.specs.declared.message_cost.MessageCounts.{MessageCounts}
use Rattle.ov_grow.specs.declared.message_cost.NodesReached.{NodesReached}

-- nothing was counted
abbrev pub no_counts : MessageCounts
no_counts = record { gossip = 0; ihave = 0; graft = 0; prune = 0 }

-- what was counted of the broadcast with this id
abbrev pub counts_at : BTreeMap MsgId MessageCounts → MsgId → MessageCounts
counts_at counts id = unwrap_or (get id_cmp counts id) no_counts

-- whether the broadcast with this id is the last one that was made
abbrev pub is_last : Option MsgId → MsgId → Bool
is_last None id = false
is_last (Some last) id = same_id last id

-- the last broadcast that was made, after a mark more
abbrev pub last_after : Option MsgId → BroadcastMark → Option MsgId
last_after last (Made id) = Some id
last_after last other = last

-- one message more of a kind
abbrev pub one_more : CountedKind → MessageCounts → MessageCounts
one_more kind.Gossip c = record c { gossip = c.gossip + 1 }
one_more kind.Ihave c = record c { ihave = c.ihave + 1 }
one_more kind.Graft c = record c { graft = c.graft + 1 }
one_more kind.Prune c = record c { prune = c.prune + 1 }

-- 1 if it is so, else 0
abbrev pub once : Bool → ℕ
once so = if so then 1 else 0

-- whether a mark tells of PRUNE while the broadcast with this id is the last one that was made
abbrev pub is_prune_of : MsgId → Option MsgId → BroadcastMark → Bool
is_prune_of id last Prune = is_last last id
is_prune_of id last other = false

-- what was counted of the broadcast with this id, after a mark more
abbrev pub counted : MsgId → Option MsgId → BroadcastMark → MessageCounts → MessageCounts
counted id last mark c = record {
  gossip = c.gossip + once (is_gossip id mark);
  ihave = c.ihave + once (is_ihave id mark);
  graft = c.graft + once (is_graft id mark);
  prune = c.prune + once (is_prune_of id last mark);
}

-- the same after all these marks
abbrev pub counted_all : MsgId → Option MsgId → List BroadcastMark → MessageCounts → MessageCounts
counted_all id last [] c = c
counted_all id last (mark ∷ more) c = counted_all id (last_after last mark) more (counted id last mark c)

-- no node was looked at
abbrev pub no_nodes : NodesReached
no_nodes = record { live = 0; delivered = 0; hops = 0 }

-- one node more, which holds the message with this round, or does not hold it
abbrev pub reached_more : Option ℕ → NodesReached → NodesReached
reached_more round r = record {
  live = r.live + 1;
  delivered = r.delivered + once (is_some round);
  hops = max r.hops (unwrap_or round 0);
}

-- the same of all these nodes
abbrev pub reached_all : Net → MsgId → List ℕ → NodesReached → NodesReached
reached_all w id [] r = r
reached_all w id (node ∷ more) r = reached_all w id more (reached_more (round_at w node id) r)
