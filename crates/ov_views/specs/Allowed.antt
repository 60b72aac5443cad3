-- What HyParView's part of a node may do in one step, at one input. The rows of the behaviour are in JoinRows,
-- NeighborRows and ShuffleRows; each names only what it reads or changes. n is this part before the step, and m is this
-- part after it.
use Rattle.std.specs.Prelude.{◌≡◌, ℕ, List, [], ◌∷◌, Option, Some, None}
use Rattle.ov_wire.specs.declared.Message.{Message}
use Rattle.ov_wire.specs.declared.Body.{Body}
use Rattle.ov_wire.specs.declared.Body.TheVariants.{Join, ForwardJoin, Joined, Neighbor, NeighborReply, Disconnect}
use Rattle.ov_wire.specs.declared.Body.TheVariants.{Shuffle, ShuffleReply, Gossip, IHave, Graft, Prune}
use Rattle.ov_words.specs.Pick.{Choice}
use Rattle.ov_views.specs.ViewsState.{ViewsState}
use Rattle.ov_views.specs.Sending.{say}
use Rattle.ov_views.specs.JoinRows.{AllowedJoin, AllowedForwardJoin, AllowedJoined}
use Rattle.ov_views.specs.NeighborRows.{AttemptState, AllowedNeighbor, AllowedReply, AllowedDisconnect}
use Rattle.ov_views.specs.NeighborRows.{AllowedCrashReport}
use Rattle.ov_views.specs.ShuffleRows.{AllowedStart, AllowedShuffle, AllowedShuffleReply}
use Rattle.ov_views.specs.declared.change.ViewChange.{ViewChange}

-- HyParView's part of a node: its views, its attempt to find an active member, and the list of its last shuffle. The
-- node's part of the broadcast tree is not in it
pub record HyParViewState : Type 0 where
  pub views : ViewsState
  pub attempt : AttemptState
  pub sent : List ℕ

-- The inputs of HyParView's part of a node. A broadcast and a timer are none: they are for Plumtree's part alone
pub data HyParViewInput : Type 0 where
  -- the node starts, with a contact or alone
  boots : Option ℕ → HyParViewInput
  -- a message arrives: its sender, and what it says
  hears : ℕ → Body → HyParViewInput
  -- a crash report comes: which node crashed
  hears_of_crash : ℕ → HyParViewInput
  -- the node is to start a shuffle
  shuffles : HyParViewInput

-- nothing is chosen, nothing in this part changes, and the active view has no changes
abbrev pub DoesNothing : HyParViewState → List Choice → HyParViewState → List ViewChange → Type 0
DoesNothing n choices m changes = (choices ≡ []) × (m ≡ n) × (changes ≡ [])

-- nothing but the views may change
abbrev pub OnlyViews : HyParViewState → HyParViewState → Type 0
OnlyViews n m = (m.attempt ≡ n.attempt) × (m.sent ≡ n.sent)

-- The step from n to m that is allowed at an input, with its choices, the changes of the active view, and what is sent
-- to whom, each in order. A node that starts sends JOIN to its contact. Plumtree's messages do nothing here
abbrev pub Allowed :
    HyParViewState → HyParViewInput → List Choice → HyParViewState → List ViewChange → List (ℕ × Message) → Type 0
Allowed n (boots None) choices m changes sends = DoesNothing n choices m changes × (sends ≡ [])
Allowed n (boots (Some contact)) choices m changes sends =
    DoesNothing n choices m changes × (sends ≡ (contact, say n.views.me Join) ∷ [])
Allowed n (hears s Join) choices m changes sends =
    OnlyViews n m × AllowedJoin n.views s choices m.views changes sends
Allowed n (hears s (ForwardJoin node ttl)) choices m changes sends =
    OnlyViews n m × AllowedForwardJoin n.views s node ttl choices m.views changes sends
Allowed n (hears s Joined) choices m changes sends =
    OnlyViews n m × AllowedJoined n.views s choices m.views changes sends
Allowed n (hears s (Neighbor high)) choices m changes sends =
    OnlyViews n m × AllowedNeighbor n.views s high choices m.views changes sends
Allowed n (hears s (NeighborReply accepted)) choices m changes sends =
    (m.sent ≡ n.sent) × AllowedReply n.views n.attempt s accepted choices m.views m.attempt changes sends
Allowed n (hears s Disconnect) choices m changes sends =
    (m.sent ≡ n.sent) × AllowedDisconnect n.views n.attempt s choices m.views m.attempt changes sends
Allowed n (hears_of_crash p) choices m changes sends =
    (m.sent ≡ n.sent) × AllowedCrashReport n.views n.attempt p choices m.views m.attempt changes sends
Allowed n shuffles choices m changes sends =
    (m.views ≡ n.views) × (m.attempt ≡ n.attempt) × (changes ≡ [])
    × AllowedStart n.views n.sent choices m.sent sends
Allowed n (hears s (Shuffle origin ttl ids)) choices m changes sends =
    OnlyViews n m × AllowedShuffle n.views s origin ttl ids choices m.views changes sends
Allowed n (hears s (ShuffleReply ids)) choices m changes sends =
    OnlyViews n m × AllowedShuffleReply n.views n.sent s ids choices m.views changes sends
Allowed n (hears s (Gossip id round payload)) choices m changes sends =
    DoesNothing n choices m changes × (sends ≡ [])
Allowed n (hears s (IHave id)) choices m changes sends = DoesNothing n choices m changes × (sends ≡ [])
Allowed n (hears s (Graft id)) choices m changes sends = DoesNothing n choices m changes × (sends ≡ [])
Allowed n (hears s Prune) choices m changes sends = DoesNothing n choices m changes × (sends ≡ [])
