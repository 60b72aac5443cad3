-- Counting mark by mark, and node by node, gives what the definitions say.
use Rattle.std.proofs.Common.{◌≡◌, ◌∙◌, ℕ, suc, ◌+◌, max, Bool, true, false, cond, List, [], ◌∷◌, length, Option}
use Rattle.std.proofs.Common.{Some, None}
use Rattle.std.proofs.Common.{refl, sym, ap, arith}
use Rattle.std.specs.Prelude.{count_by, is_some}
use Rattle.std.proofs.lemmas.List.Sums.{sum_by-cons}
use Rattle.ov_ids.specs.declared.id.MsgId.{MsgId}
use Rattle.ov_net.specs.Net.{Net}
use Rattle.ov_grow.specs.MessageCosts.{cost_of, hops_among, is_gossip, is_graft, is_ihave, prunes_of, round_at, same_id}
use Rattle.ov_grow.specs.Code.Counting.{counted, counted_all, is_last, last_after, no_counts, no_nodes, once}
use Rattle.ov_grow.specs.Code.Counting.{reached_all, reached_more}
use Rattle.ov_grow.specs.declared.broadcast_log.BroadcastMark.{BroadcastMark}
use Rattle.ov_grow.specs.declared.broadcast_log.BroadcastMark.TheVariants.{Made, Gossip, Ihave, Graft, Prune}
use Rattle.ov_grow.specs.declared.message_cost.MessageCost.{MessageCost}
use Rattle.ov_grow.specs.declared.message_cost.MessageCounts.{MessageCounts}
use Rattle.ov_grow.specs.declared.message_cost.NodesReached.{NodesReached}

plus_none : (n : ℕ) → n ≡ n + 0
plus_none n = omega arith

assoc : (a b d : ℕ) → a + b + d ≡ a + (b + d)
assoc a b d = omega arith

-- marks of one kind are counted one by one
tallied : (count : MessageCounts → ℕ) (is : BroadcastMark → Bool) (id : MsgId)
    → ((last : Option MsgId) (mark : BroadcastMark) (c : MessageCounts) → count (counted id last mark c)
    ≡ count c + once (is mark))
    → (last : Option MsgId) (marks : List BroadcastMark) (c : MessageCounts)
    → count (counted_all id last marks c) ≡ count c + count_by is marks
tallied count is id one last [] c = plus_none (count c)
tallied count is id one last (mark ∷ more) c =
    let rest = tallied count is id one (last_after last mark) more (counted id last mark c) in
    let first = sum_by-cons (λ m. cond (is m) 1 0) mark more in
    rest ∙ (ap (λ n. n + count_by is more) (one last mark c)
    ∙ (assoc (count c) (once (is mark)) (count_by is more) ∙ ap (λ n. count c + n) (sym first)))

-- PRUNE, if the broadcast is the last one or is not
prune_more : (id : MsgId) (last : Bool) (more : List BroadcastMark) (n : ℕ)
    → n + once last + prunes_of id last more ≡ n + prunes_of id last (Prune ∷ more)
prune_more id true more n = omega arith
prune_more id false more n = omega arith

none_more : (n p : ℕ) → n + 0 + p ≡ n + p
none_more n p = omega arith

prunes : (id : MsgId) (last : Option MsgId) (marks : List BroadcastMark) (c : MessageCounts)
    → (counted_all id last marks c).prune ≡ c.prune + prunes_of id (is_last last id) marks
prunes id last [] c = plus_none c.prune
prunes id last (Made other ∷ more) c =
    prunes id (Some other) more (counted id last (Made other) c)
    ∙ none_more c.prune (prunes_of id (same_id other id) more)
prunes id last (Gossip other ∷ more) c =
    prunes id last more (counted id last (Gossip other) c) ∙ none_more c.prune (prunes_of id (is_last last id) more)
prunes id last (Ihave other ∷ more) c =
    prunes id last more (counted id last (Ihave other) c) ∙ none_more c.prune (prunes_of id (is_last last id) more)
prunes id last (Graft other ∷ more) c =
    prunes id last more (counted id last (Graft other) c) ∙ none_more c.prune (prunes_of id (is_last last id) more)
prunes id last (Prune ∷ more) c =
    prunes id last more (counted id last Prune c) ∙ prune_more id (is_last last id) more c.prune

-- ---- all nodes

lives : (w : Net) (id : MsgId) (nodes : List ℕ) (r : NodesReached)
    → (reached_all w id nodes r).live ≡ r.live + length nodes
lives w id [] r = plus_none r.live
lives w id (node ∷ more) r =
    let rest = lives w id more (reached_more (round_at w node id) r) in
    rest ∙ one (length more)
  where
    one : (n : ℕ) → r.live + 1 + n ≡ r.live + suc n
    one n = omega arith

deliveries : (w : Net) (id : MsgId) (nodes : List ℕ) (r : NodesReached)
    → (reached_all w id nodes r).delivered ≡ r.delivered + count_by (λ node. is_some (round_at w node id)) nodes
deliveries w id [] r = plus_none r.delivered
deliveries w id (node ∷ more) r =
    let rest = deliveries w id more (reached_more (round_at w node id) r) in
    let first = sum_by-cons (λ n. cond (is_some (round_at w n id)) 1 0) node more in
    rest ∙ (assoc r.delivered (once (is_some (round_at w node id))) (count_by (λ n. is_some (round_at w n id)) more)
    ∙ ap (λ n. r.delivered + n) (sym first))

most_none : (n : ℕ) → n ≡ max n 0
most_none n = omega arith

most_more : (a b d : ℕ) → max (max a b) d ≡ max a (max b d)
most_more a b d = omega arith

farthest : (w : Net) (id : MsgId) (nodes : List ℕ) (r : NodesReached)
    → (reached_all w id nodes r).hops ≡ max r.hops (hops_among w id nodes)
farthest w id [] r = most_none r.hops
farthest w id (node ∷ more) r =
    farthest w id more (reached_more (round_at w node id) r) ∙ most_more r.hops _ (hops_among w id more)

-- ---- what a broadcast cost

from_none : (n : ℕ) → 0 + n ≡ n
from_none n = omega arith

most_from_none : (n : ℕ) → max 0 n ≡ n
most_from_none n = omega arith

-- a cost of these parts
abbrev pub cost_by : MsgId → NodesReached → MessageCounts → MessageCost
cost_by id r c = record {
  id = id;
  live = r.live;
  delivered = r.delivered;
  hops = r.hops;
  gossip = c.gossip;
  ihave = c.ihave;
  graft = c.graft;
  prune = c.prune;
}

pub cost_is : (w : Net) (live : List ℕ) (marks : List BroadcastMark) (id : MsgId) (r : NodesReached) (c : MessageCounts)
    → r ≡ reached_all w id live no_nodes → c ≡ counted_all id None marks no_counts
    → cost_by id r c ≡ cost_of w live marks id
unfolding cost_of
cost_is w live marks id r c reached counts =
    λ i. record {
      id = id;
      live = (ap (λ (x : NodesReached). x.live) reached ∙ (lives w id live no_nodes ∙ from_none _)) i;
      delivered = (ap (λ (x : NodesReached). x.delivered) reached ∙ (deliveries w id live no_nodes ∙ from_none _)) i;
      hops = (ap (λ (x : NodesReached). x.hops) reached ∙ (farthest w id live no_nodes ∙ most_from_none _)) i;
      gossip = (ap (λ (x : MessageCounts). x.gossip) counts
          ∙ (tallied (λ x. x.gossip) (is_gossip id) id (λ last mark x. refl) None marks no_counts ∙ from_none _)) i;
      ihave = (ap (λ (x : MessageCounts). x.ihave) counts
          ∙ (tallied (λ x. x.ihave) (is_ihave id) id (λ last mark x. refl) None marks no_counts ∙ from_none _)) i;
      graft = (ap (λ (x : MessageCounts). x.graft) counts
          ∙ (tallied (λ x. x.graft) (is_graft id) id (λ last mark x. refl) None marks no_counts ∙ from_none _)) i;
      prune = (ap (λ (x : MessageCounts). x.prune) counts ∙ (prunes id None marks no_counts ∙ from_none _)) i;
    }
