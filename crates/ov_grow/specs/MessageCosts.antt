-- What single broadcasts cost. GOSSIP, IHAVE, GRAFT and PRUNE are Plumtree's (Leitão, Pereira, Rodrigues, SRDS 2007),
-- as is the number of hops; that they are counted so is chosen here.
use Rattle.std.specs.Prelude.{◌≡◌, ℕ, ◌+◌, max, Bool, true, false, List, [], ◌∷◌, map as each, length, count_by}
use Rattle.std.specs.Prelude.{Option, Some, None, option_map, unwrap_or, is_some}
use Rattle.std.specs.FinMap as map
use Rattle.std.specs.Ordering.{eq_by_cmp}
use Rattle.ov_ids.specs.declared.id.MsgId.{MsgId}
use Rattle.ov_plum.specs.Ids.{id_cmp}
use Rattle.ov_net.specs.Net.{Net}
use Rattle.ov_net.specs.declared.member.Member.{Member}
use Rattle.ov_net.specs.declared.member.Member.TheVariants.{Live}
use Rattle.ov_grow.specs.Growth.{Growth, AreLive}
use Rattle.ov_grow.specs.declared.broadcast_log.BroadcastMark.{BroadcastMark}
use Rattle.ov_grow.specs.declared.broadcast_log.BroadcastMark.TheVariants.{Made, Gossip, Ihave, Graft, Prune}
use Rattle.ov_grow.specs.declared.message_cost.CountedKind.{CountedKind}
use Rattle.ov_grow.specs.declared.message_cost.CountedKind.TheVariants as kind
use Rattle.ov_grow.specs.declared.message_cost.MessageCost.{MessageCost}

-- whether two ids are equal
abbrev pub same_id : MsgId → MsgId → Bool
same_id id other = eq_by_cmp id_cmp id other

-- whether a mark tells of GOSSIP with this id
abbrev pub is_gossip : MsgId → BroadcastMark → Bool
is_gossip id (Gossip other) = same_id other id
is_gossip id mark = false

-- whether a mark tells of IHAVE with this id
abbrev pub is_ihave : MsgId → BroadcastMark → Bool
is_ihave id (Ihave other) = same_id other id
is_ihave id mark = false

-- whether a mark tells of GRAFT with this id
abbrev pub is_graft : MsgId → BroadcastMark → Bool
is_graft id (Graft other) = same_id other id
is_graft id mark = false

-- how many PRUNE are told while the broadcast with this id is the last one that was made; whether it is the last one
-- before these marks. When broadcasts are made one by one nothing of a broadcast is left when the next one begins, so
-- these are the PRUNE that were sent until nothing of it was left
abbrev pub prunes_of : MsgId → Bool → List BroadcastMark → ℕ
prunes_of id last [] = 0
prunes_of id last (Made other ∷ more) = prunes_of id (same_id other id) more
prunes_of id true (Prune ∷ more) = 1 + prunes_of id true more
prunes_of id last (mark ∷ more) = prunes_of id last more

-- the ids of the broadcasts that were made, in their order
abbrev pub made_in : List BroadcastMark → List MsgId
made_in [] = []
made_in (Made id ∷ more) = id ∷ made_in more
made_in (mark ∷ more) = made_in more

-- the round with which a node that is such a member holds the message with this id, if it lives and holds it
abbrev pub round_of : Option Member → MsgId → Option ℕ
round_of (Some (Live p)) id = option_map (λ h. h.round) (map.get p.tree.held id)
round_of other id = None

-- the same of the node with this id
abbrev pub round_at : Net → ℕ → MsgId → Option ℕ
round_at w node id = round_of (map.get w.nodes node) id

-- the largest round with which one of these nodes holds the message, 0 if none holds it
abbrev pub hops_among : Net → MsgId → List ℕ → ℕ
hops_among w id [] = 0
hops_among w id (node ∷ more) = max (unwrap_or (round_at w node id) 0) (hops_among w id more)

-- what the broadcast with this id cost, in a world with these live nodes, when these marks were told: how many live
-- nodes hold its message, with which round at most, and how many messages were sent. A packet that was lost counts; the
-- copy of one that was repeated does not
unfoldable pub cost_of : Net → List ℕ → List BroadcastMark → MsgId → MessageCost
cost_of w live marks id = record {
  id = id;
  live = length live;
  delivered = count_by (λ node. is_some (round_at w node id)) live;
  hops = hops_among w id live;
  gossip = count_by (is_gossip id) marks;
  ihave = count_by (is_ihave id) marks;
  graft = count_by (is_graft id) marks;
  prune = prunes_of id false marks;
}

-- what the broadcasts cost that the log tells of, in their order; nothing without a log
abbrev pub AreCostsBy : Option (List BroadcastMark) → Growth → List MessageCost → Type 0
AreCostsBy None s costs = costs ≡ []
AreCostsBy (Some marks) s costs =
    (live : List ℕ) × AreLive s live × (costs ≡ each (cost_of s.world.net live marks) (made_in marks))

-- where growing stands now, these are the costs of the broadcasts since the last snapshot
abbrev pub AreCosts : Growth → List MessageCost → Type 0
AreCosts s costs = AreCostsBy s.log s costs

-- how many messages of a kind a broadcast cost
abbrev pub sent_of : CountedKind → MessageCost → ℕ
sent_of kind.Gossip c = c.gossip
sent_of kind.Ihave c = c.ihave
sent_of kind.Graft c = c.graft
sent_of kind.Prune c = c.prune
