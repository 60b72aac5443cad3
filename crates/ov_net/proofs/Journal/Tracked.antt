-- A step of a node keeps its ids, and its active view changes as the step's changes say.
use Rattle.std.proofs.Common.{◌≡◌, ℕ, List, length, Option, not, ◌||◌, eqb, sym, ap, subst, ◌∙◌}
use Rattle.std.proofs.Common.{arith}
use Rattle.std.specs.FinMap as map
use Rattle.ov_ids.specs.declared.id.MsgId.{MsgId}
use Rattle.ov_ids.proofs.Cases.{either_way}
use Rattle.ov_wire.specs.declared.message.Message.{Message}
use Rattle.ov_wire.specs.declared.message.Body.{Body}
use Rattle.ov_wire.specs.declared.message.Body.TheVariants.{Join, ForwardJoin, Joined, Neighbor, NeighborReply}
use Rattle.ov_wire.specs.declared.message.Body.TheVariants.{Disconnect, Shuffle, ShuffleReply, Gossip, IHave, Graft}
use Rattle.ov_wire.specs.declared.message.Body.TheVariants.{Prune}
use Rattle.ov_words.specs.Pick.{Choice}
use Rattle.ov_views.specs.Allowed.{HyParViewState, DoesNothing, boots, hears, hears_of_crash, shuffles}
use Rattle.ov_views.specs.Changes.{after_changes}
use Rattle.ov_views.specs.declared.change.ViewChange.{ViewChange}
use Rattle.ov_views.proofs.Tracking.{Tracks, tracked}
use Rattle.ov_plum.specs.Notes.{oldest}
use Rattle.ov_plum.specs.PlumRows.{AllowedFrom, AllowedTimer, Delivered}
use Rattle.ov_plum.specs.PlumState.{PlumState, is_linked}
use Rattle.ov_peer.specs.Step.{HyParViewPart, TreePart, PeerStep}
use Rattle.ov_peer.specs.PeerState.{PeerState}
use Rattle.ov_peer.specs.declared.input_and_output.Delivery.{Delivery}
use Rattle.ov_peer.specs.declared.input_and_output.Input.{Input}
use Rattle.ov_peer.specs.declared.input_and_output.Input.TheVariants as input
use Rattle.ov_peer.proofs.Steps.{told_me}
use Rattle.ov_net.proofs.Steps.Places.{some_way}

-- where nothing changes, the step has no changes
views_rest : (n : HyParViewState) (choices : List Choice) (m : HyParViewState) (changes : List ViewChange)
    → DoesNothing n choices m changes → Tracks n.views changes m.views
views_rest n choices m changes h = record {
  me = ap (λ (u : HyParViewState). u.views.me) h.1;
  active = ap (λ (u : HyParViewState). u.views.active) h.1 ∙ ap (λ c. after_changes c n.views.active) (sym h.2);
  few = omega (arith, ap length h.2);
}

-- HyParView's part of a step changes the active view as its changes say
views_tracked : (n : HyParViewState) (i : Input) (choices : List Choice) (m : HyParViewState)
    (changes : List ViewChange) (heard : List (ℕ × Message)) → HyParViewPart n i choices m changes heard
    → Tracks n.views changes m.views
views_tracked n (input.Boot contact) choices m changes heard h = tracked n (boots contact) choices m changes heard h
views_tracked n (input.Receive message) choices m changes heard h =
    tracked n (hears message.from message.body) choices m changes heard h
views_tracked n (input.CrashReport p) choices m changes heard h = tracked n (hears_of_crash p) choices m changes heard h
views_tracked n input.Shuffle choices m changes heard h = tracked n shuffles choices m changes heard h
views_tracked n (input.Broadcast payload) choices m changes heard h = views_rest n choices m changes h.0
views_tracked n (input.Timer id) choices m changes heard h = views_rest n choices m changes h.0

-- a message does not change the id of a tree
heard_me : (t : PlumState) (s : ℕ) (body : Body) (u : PlumState) (sends : List (ℕ × Message))
    (delivery : Option Delivered) → AllowedFrom t s body u sends delivery → u.me ≡ t.me
heard_me t s (Gossip id round payload) u sends delivery h =
    either_way (map.contains_key t.held id) _ _ _ (λ k. ap (λ (r : PlumState). r.me) k.0)
    (λ k. ap (λ (r : PlumState). r.me) k.0) h
heard_me t s (IHave id) u sends delivery h =
    either_way (map.contains_key t.held id || not (is_linked t.branches s)) _ _ _ (λ k. ap (λ (r : PlumState). r.me) k)
    (λ k. ap (λ (r : PlumState). r.me) k) h.1
heard_me t s (Graft id) u sends delivery h = ap (λ (r : PlumState). r.me) h.0
heard_me t s Prune u sends delivery h = ap (λ (r : PlumState). r.me) h.0
heard_me t s Join u sends delivery h = ap (λ (r : PlumState). r.me) h.0
heard_me t s (ForwardJoin node ttl) u sends delivery h = ap (λ (r : PlumState). r.me) h.0
heard_me t s Joined u sends delivery h = ap (λ (r : PlumState). r.me) h.0
heard_me t s (Neighbor high) u sends delivery h = ap (λ (r : PlumState). r.me) h.0
heard_me t s (NeighborReply accepted) u sends delivery h = ap (λ (r : PlumState). r.me) h.0
heard_me t s Disconnect u sends delivery h = ap (λ (r : PlumState). r.me) h.0
heard_me t s (Shuffle origin ttl ids) u sends delivery h = ap (λ (r : PlumState). r.me) h.0
heard_me t s (ShuffleReply ids) u sends delivery h = ap (λ (r : PlumState). r.me) h.0

-- nor does a timer
timed_me : (t : PlumState) (id : MsgId) (u : PlumState) (sends : List (ℕ × Message)) (delivery : Option Delivered)
    → AllowedTimer t id u sends delivery → u.me ≡ t.me
timed_me t id u sends delivery h =
    some_way (oldest id t.notes) _ _ _ (λ k. ap (λ (r : PlumState). r.me) k.0) (λ s k. ap (λ (r : PlumState). r.me) k.0)
    h.2

-- nor does any step of Plumtree's part
tree_stays : (t : PlumState) (i : Input) (u : PlumState) (spread : List (ℕ × Message)) (delivered : Option Delivered)
    → TreePart t i u spread delivered → u.me ≡ t.me
tree_stays t (input.Boot contact) u spread delivered h = ap (λ (s : PlumState). s.me) h.0
tree_stays t (input.Receive message) u spread delivered h =
    either_way (eqb message.from t.me) _ _ _ (λ k. ap (λ (s : PlumState). s.me) k.0)
    (heard_me t message.from message.body u spread delivered) h
tree_stays t (input.CrashReport p) u spread delivered h = ap (λ (s : PlumState). s.me) h.0
tree_stays t input.Shuffle u spread delivered h = ap (λ (s : PlumState). s.me) h.0
tree_stays t (input.Broadcast payload) u spread delivered h = ap (λ (s : PlumState). s.me) h.0
tree_stays t (input.Timer id) u spread delivered h = timed_me t id u spread delivered h

-- after a step a node has the ids that it had, and its active view is the old one after the step's changes
pub record PeerTracks (p : PeerState) (told : List ViewChange) (q : PeerState) : Type 0 where
  pub views : Tracks p.hyparview.views told q.hyparview.views
  pub tree : q.tree.me ≡ p.tree.me

-- at every input
pub peer_tracked : (p : PeerState) (i : Input) (choices : List Choice) (q : PeerState) (sends : List (ℕ × Message))
    (told : List ViewChange) (delivery : Option Delivery)
    → PeerStep p i choices q sends told delivery → PeerTracks p told q
peer_tracked p i choices q sends told delivery h = record {
  views =
      let m = h.between.hyparview in
      subst (λ (n : HyParViewState). Tracks p.hyparview.views told n.views) (sym h.told.hyparview)
      (views_tracked p.hyparview i choices m told h.parts.hyparview_sends h.parts.hyparview);
  tree =
      told_me h.between.tree told q.tree h.told.told
      ∙ tree_stays p.tree i h.between.tree h.parts.tree_sends h.parts.delivered h.parts.tree;
}
