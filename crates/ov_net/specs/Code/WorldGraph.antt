-- The graph of a world's links as it is kept from event to event, and as it is made of the views.
use Rattle.std.specs.Prelude.{◌≡◌, ◌≢◌, ◌↔◌, ℕ, ◌<◌, List, [], length, Option, Some}
use Rattle.std.specs.Ordering.{nat_cmp}
use Rattle.std.specs.FinMap as map
use Rattle.ov_ids.specs.ParamsState.{ParamsState}
use Rattle.ov_ids.specs.declared.world_scale.Scale.{Scale}
use Rattle.ov_ids.specs.declared.world_scale.Scale.TheVariants.{Profile, Large}
use Rattle.ov_ids.specs.Members.{Has}
use Rattle.ov_graph.specs.Links.{LinkGraph, IsGraph, Linked}
use Rattle.ov_peer.specs.PeerState.{PeerState}
use Rattle.ov_net.specs.Code.LinkChanges.{Holds}
use Rattle.ov_net.specs.Journal.{AreLinks}
use Rattle.ov_net.specs.declared.journal_entry_and_changes.Entry.{Entry}
use Rattle.ov_net.specs.declared.kept_graph.KeptGraph.{KeptGraph}
use Rattle.ov_net.specs.declared.kept_graph.KeptGraph.TheVariants.{Kept, Unkept}
use Rattle.ov_net.specs.declared.member.Member.{Member}
use Rattle.ov_net.specs.declared.member.Member.TheVariants.{Live}

-- the graph, if one is kept, has the property P
abbrev pub IfKept : (LinkGraph → Type 0) → KeptGraph → Type 0
IfKept P (Kept g) = P g
IfKept P Unkept = Unit {0}

-- a graph is kept before and after, and R holds of the two, or none is kept, before or after
abbrev pub AreBothKept : (LinkGraph → LinkGraph → Type 0) → KeptGraph → KeptGraph → Type 0
AreBothKept R (Kept g) (Kept h) = R g h
AreBothKept R (Kept g) Unkept = ⊥
AreBothKept R Unkept (Kept h) = ⊥
AreBothKept R Unkept Unkept = Unit {0}

-- a world of the profile's scale keeps the graph of its links now, and a large one keeps none
abbrev pub KeepsLinks : ParamsState → List Entry → KeptGraph → Type 0
KeepsLinks params journal (Kept g) = (params.scale ≡ Profile) × AreLinks journal (length journal) g
KeepsLinks params journal Unkept = params.scale ≡ Large

-- what a world of this scale keeps in which nothing has happened
abbrev pub opening_graph : Scale → KeptGraph
opening_graph Profile = Kept (record { nodes = []; links = [] })
opening_graph Large = Unkept

-- node a is alive, and holds b, where each id has this member
abbrev pub HoldsIn : (ℕ → Option Member) → ℕ → ℕ → Type 0
HoldsIn look a b = (p : PeerState) × (look a ≡ Some (Live p)) × Has p.hyparview.views.active b

-- node a is alive there
abbrev pub LivesIn : (ℕ → Option Member) → ℕ → Type 0
LivesIn look a = (p : PeerState) × (look a ≡ Some (Live p))

-- two nodes hold each other
pub record Mutual (look : ℕ → Option Member) (a b : ℕ) : Type 0 where
  pub differ : a ≢ b
  pub holds : HoldsIn look a b
  pub held : HoldsIn look b a

-- the graph of the live nodes, of which two are linked if they hold each other
pub record IsMutual (look : ℕ → Option Member) (g : LinkGraph) : Type 0 where
  pub graph : IsGraph g
  pub nodes : (a : ℕ) → Has g.nodes a ↔ LivesIn look a
  pub links : (a b : ℕ) → Linked g a b ↔ Mutual look a b

-- the two ids of l are those of nodes that hold each other, the lower one first
abbrev pub IsUpward : map.FinMap nat_cmp Member → ℕ × ℕ → Type 0
IsUpward members l = (l.0 < l.1) × Holds members l.0 l.1 × Holds members l.1 l.0

-- l is a node with one of these, which has a higher id and holds the node
abbrev pub AreUpwardOf : map.FinMap nat_cmp Member → ℕ → List ℕ → ℕ × ℕ → Type 0
AreUpwardOf members node others l = (l.0 ≡ node) × (l.0 < l.1) × Has others l.1 × Holds members l.1 l.0
