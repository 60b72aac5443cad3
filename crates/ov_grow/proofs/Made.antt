-- How many broadcasts a node has made: only a broadcast of its own is one more.
use Rattle.std.proofs.Common.{◌≡◌, ℕ, ◌+◌, ◌||◌, List, [], ◌∷◌, Option, ap, ◌∙◌, eqb, not}
use Rattle.std.specs.Prelude.{⊤}
use Rattle.std.specs.FinMap as map
use Rattle.ov_ids.proofs.Cases.{either_way}
use Rattle.ov_wire.specs.declared.message.Message.{Message}
use Rattle.ov_wire.specs.declared.message.Body.{Body}
use Rattle.ov_wire.specs.declared.message.Body.TheVariants.{Join, ForwardJoin, Joined, Neighbor, NeighborReply}
use Rattle.ov_wire.specs.declared.message.Body.TheVariants.{Disconnect, Shuffle, ShuffleReply, Gossip, IHave, Graft}
use Rattle.ov_wire.specs.declared.message.Body.TheVariants.{Prune}
use Rattle.ov_words.specs.Pick.{Choice}
use Rattle.ov_views.specs.declared.change.ViewChange.{ViewChange}
use Rattle.ov_views.specs.declared.change.ViewChange.TheVariants.{Up, Down}
use Rattle.ov_plum.specs.Notes.{oldest}
use Rattle.ov_plum.specs.PlumState.{PlumState, is_linked}
use Rattle.ov_plum.specs.PlumRows.{AllowedFrom, Delivered}
use Rattle.ov_peer.specs.PeerState.{PeerState}
use Rattle.ov_peer.specs.Step.{PeerStep, Told, TreePart}
use Rattle.ov_peer.specs.declared.input_and_output.Delivery.{Delivery}
use Rattle.ov_peer.specs.declared.input_and_output.Input.{Input}
use Rattle.ov_peer.specs.declared.input_and_output.Input.TheVariants as input
use Rattle.ov_net.proofs.Steps.Places.{some_way}

-- an input that is no broadcast of the node's own
abbrev pub MakesNone : Input → Type 0
MakesNone (input.Broadcast payload) = ⊥
MakesNone i = ⊤

same_made : (t u : PlumState) → u ≡ t → u.made ≡ t.made
same_made t u same = ap (λ (r : PlumState). r.made) same

heard_made : (t : PlumState) (s : ℕ) (body : Body) (u : PlumState) (sends : List (ℕ × Message))
    (delivered : Option Delivered) → AllowedFrom t s body u sends delivered → u.made ≡ t.made
heard_made t s (Gossip id round payload) u sends delivered h =
    either_way (map.contains_key t.held id) _ _ (u.made ≡ t.made) (λ k. ap (λ (r : PlumState). r.made) k.0)
    (λ k. ap (λ (r : PlumState). r.made) k.0) h
heard_made t s (IHave id) u sends delivered h =
    either_way (map.contains_key t.held id || not (is_linked t.branches s)) _ _ (u.made ≡ t.made)
    (λ k. ap (λ (r : PlumState). r.made) k) (λ k. ap (λ (r : PlumState). r.made) k) h.1
heard_made t s (Graft id) u sends delivered h = ap (λ (r : PlumState). r.made) h.0
heard_made t s Prune u sends delivered h = ap (λ (r : PlumState). r.made) h.0
heard_made t s Join u sends delivered h = same_made t u h.0
heard_made t s (ForwardJoin node ttl) u sends delivered h = same_made t u h.0
heard_made t s Joined u sends delivered h = same_made t u h.0
heard_made t s (Neighbor high) u sends delivered h = same_made t u h.0
heard_made t s (NeighborReply accepted) u sends delivered h = same_made t u h.0
heard_made t s Disconnect u sends delivered h = same_made t u h.0
heard_made t s (Shuffle origin ttl ids) u sends delivered h = same_made t u h.0
heard_made t s (ShuffleReply ids) u sends delivered h = same_made t u h.0

tree_made : (t : PlumState) (i : Input) (u : PlumState) (sends : List (ℕ × Message)) (delivered : Option Delivered)
    → MakesNone i → TreePart t i u sends delivered → u.made ≡ t.made
tree_made t (input.Boot contact) u sends delivered none h = same_made t u h.0
tree_made t (input.Receive m) u sends delivered none h =
    either_way (eqb m.from t.me) _ _ (u.made ≡ t.made) (λ k. same_made t u k.0)
    (λ k. heard_made t m.from m.body u sends delivered k) h
tree_made t (input.CrashReport p) u sends delivered none h = same_made t u h.0
tree_made t input.Shuffle u sends delivered none h = same_made t u h.0
tree_made t (input.Broadcast payload) u sends delivered none h = absurd none
tree_made t (input.Timer id) u sends delivered none h =
    some_way (oldest id t.notes) _ _ (u.made ≡ t.made) (λ k. ap (λ (r : PlumState). r.made) k.0)
    (λ s k. ap (λ (r : PlumState). r.made) k.0) h.2

told_made : (t : PlumState) (changes : List ViewChange) (u : PlumState) → Told t changes u → u.made ≡ t.made
told_made t [] u same = same_made t u same
told_made t (Up x ∷ changes) u (next, step, more) =
    told_made next changes u more ∙ ap (λ (r : PlumState). r.made) step.0
told_made t (Down x ∷ changes) u (next, step, more) =
    told_made next changes u more ∙ ap (λ (r : PlumState). r.made) step.0

-- a step at another input
pub none_made : (p : PeerState) (i : Input) (cs : List Choice) (q : PeerState) (sends : List (ℕ × Message))
    (changes : List ViewChange) (delivery : Option Delivery) → MakesNone i → PeerStep p i cs q sends changes delivery
    → q.tree.made ≡ p.tree.made
none_made p i cs q sends changes delivery none h =
    told_made h.between.tree changes q.tree h.told.told
    ∙ tree_made p.tree i h.between.tree h.parts.tree_sends h.parts.delivered none h.parts.tree

-- a broadcast
pub one_made : (p : PeerState) (payload : List ℕ) (cs : List Choice) (q : PeerState) (sends : List (ℕ × Message))
    (changes : List ViewChange) (delivery : Option Delivery)
    → PeerStep p (input.Broadcast payload) cs q sends changes delivery → q.tree.made ≡ p.tree.made + 1
one_made p payload cs q sends changes delivery h =
    told_made h.between.tree changes q.tree h.told.told ∙ ap (λ (r : PlumState). r.made) h.parts.tree.0
