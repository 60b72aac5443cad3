-- How the graph of a world changes with the changes of an entry.
use Rattle.std.specs.Prelude.{◌≡◌, ◌≢◌, ◌↔◌, ◌⊎◌, ℕ, ◌<◌, List, [], ◌∷◌, length, Option, Some, None}
use Rattle.std.specs.Ordering.{nat_cmp}
use Rattle.std.specs.FinMap as map
use Rattle.ov_ids.specs.Members.{Has}
use Rattle.ov_graph.specs.Links.{LinkGraph, IsGraph, IsSmall, Linked, most_nodes}
use Rattle.ov_graph.specs.Changes.{ArePair, GainsNode, LosesNode, LosesLink}
use Rattle.ov_peer.specs.PeerState.{PeerState}
use Rattle.ov_net.specs.declared.event.Event.{Event}
use Rattle.ov_net.specs.declared.event.Event.TheVariants.{Boot, Deliver, Lose, Repeat, Crash, CrashReport, Shuffle}
use Rattle.ov_net.specs.declared.event.Event.TheVariants.{Broadcast, Timer, Snapshot}
use Rattle.ov_net.specs.declared.journal_entry_and_changes.Change.{Change}
use Rattle.ov_net.specs.declared.journal_entry_and_changes.Change.TheVariants.{Born, Up, Down, Gone}
use Rattle.ov_net.specs.declared.member.Member.{Member}
use Rattle.ov_net.specs.declared.member.Member.TheVariants as member

-- node a is alive
abbrev pub IsLive : map.FinMap nat_cmp Member → ℕ → Type 0
IsLive members a = (p : PeerState) × (map.get members a ≡ Some (member.Live p))

-- this id, if the node with it is alive
abbrev pub id_if_live : ℕ → Member → List ℕ
id_if_live a (member.Live p) = a ∷ []
id_if_live a member.Gone = []

-- node a is alive, and holds b in its active view
abbrev pub Holds : map.FinMap nat_cmp Member → ℕ → ℕ → Type 0
Holds members a b = (p : PeerState) × (map.get members a ≡ Some (member.Live p)) × Has p.hyparview.views.active b

-- the node that is born at an event, if one is
abbrev pub newborn_of : Event → Option ℕ
newborn_of (Boot a contact) = Some a
newborn_of (Deliver i) = None
newborn_of (Lose i) = None
newborn_of (Repeat i) = None
newborn_of (Crash a) = None
newborn_of (CrashReport a crashed) = None
newborn_of (Shuffle a) = None
newborn_of (Broadcast a payload) = None
newborn_of (Timer a id) = None
newborn_of Snapshot = None

-- the graph is small. The newborn node, if there is one, is not in it, and there is room for one node more
abbrev pub MayGain : Option ℕ → LinkGraph → Type 0
MayGain None g = IsSmall g
MayGain (Some a) g = (¬ Has g.nodes a) × (length g.nodes < most_nodes)

-- h is the graph g with the newborn node, if there is one
abbrev pub Gains : Option ℕ → LinkGraph → LinkGraph → Type 0
Gains None g h = h ≡ g
Gains (Some a) g h = GainsNode g a h

-- h is g with a link between a and b, if they differ and b holds a
pub record GainsMutual (members : map.FinMap nat_cmp Member) (a b : ℕ) (g h : LinkGraph) : Type 0 where
  pub nodes : h.nodes ≡ g.nodes
  pub links : (x y : ℕ) → Linked h x y ↔ (Linked g x y ⊎ (ArePair a b x y × (a ≢ b) × Holds members b a))

-- h is the graph g after one change more; `members` are the nodes after the event. A newborn node is in g already
abbrev pub IsChanged : map.FinMap nat_cmp Member → Change → LinkGraph → LinkGraph → Type 0
IsChanged members (Born a) g h = h ≡ g
IsChanged members (Up a b) g h = GainsMutual members a b g h
IsChanged members (Down a b) g h = LosesLink g a b h
IsChanged members (Gone a) g h = LosesNode g a h

-- h is the graph g after these changes, one after the other
abbrev pub AreChanged : map.FinMap nat_cmp Member → List Change → LinkGraph → LinkGraph → Type 0
AreChanged members [] g h = h ≡ g
AreChanged members (c ∷ changes) g h =
    (k : LinkGraph) × IsGraph k × IsChanged members c g k × AreChanged members changes k h

-- each live node is in the graph
abbrev pub HasAllLive : map.FinMap nat_cmp Member → LinkGraph → Type 0
HasAllLive members g = (a : ℕ) → IsLive members a → Has g.nodes a

-- the changes fit the nodes after the event: one whose active view changed is alive, and one that crashed is not
pub record Fit (members : map.FinMap nat_cmp Member) (changes : List Change) : Type 0 where
  pub up : (a b : ℕ) → Has changes (Up a b) → IsLive members a
  pub gone : (a : ℕ) → Has changes (Gone a) → ¬ IsLive members a

-- one change fits them
abbrev pub FitsOne : map.FinMap nat_cmp Member → Change → Type 0
FitsOne members c = Fit members (c ∷ [])
