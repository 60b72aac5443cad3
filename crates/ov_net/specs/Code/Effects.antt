-- The effects of an event, made before anything changes, and the world after them.
use Rattle.std.specs.Prelude.{◌≡◌, ◌<◌, ◌≤◌, ℕ, List, ◌∷◌, ◌++◌, length, map as each, remove, Option, Some, None}
use Rattle.std.specs.Ordering.{nat_cmp}
use Rattle.std.specs.FinMap as map
use Rattle.ov_wire.specs.declared.message.Message.{Message}
use Rattle.ov_views.specs.declared.change.ViewChange.{ViewChange}
use Rattle.ov_peer.specs.Limits.{DrawnFrom}
use Rattle.ov_peer.specs.Planning.{Follows, Plans, IsPlanFor}
use Rattle.ov_peer.specs.PeerState.{PeerState}
use Rattle.ov_peer.specs.declared.input_and_output.Input.{Input}
use Rattle.ov_peer.specs.declared.plan.Plan.{Plan}
use Rattle.ov_net.specs.Limits.{most_packets, step_packets}
use Rattle.ov_net.specs.Net.{Net}
use Rattle.ov_net.specs.NetStep.{change_at, DrawnStep, Happens}
use Rattle.ov_net.specs.declared.planned_effects.Effects.{Effects}
use Rattle.ov_net.specs.declared.planned_effects.NodeChange.{NodeChange}
use Rattle.ov_net.specs.declared.planned_effects.NodeChange.TheVariants as change
use Rattle.ov_net.specs.declared.journal_entry_and_changes.Change.TheVariants.{Born}
use Rattle.ov_net.specs.declared.journal_entry_and_changes.Entry.{Entry}
use Rattle.ov_net.specs.declared.event.Event.{Event}
use Rattle.ov_net.specs.declared.member.Member.{Member}
use Rattle.ov_net.specs.declared.member.Member.TheVariants.{Live, Gone}

-- the packets without the one at this place, if a place is named
abbrev pub taking : Option ℕ → List (ℕ × Message) → List (ℕ × Message)
taking None packets = packets
taking (Some i) packets = remove packets i

-- at the named place, if there is one, is a packet
abbrev pub IsWithin : Option ℕ → List (ℕ × Message) → Type 0
IsWithin None packets = Unit {0}
IsWithin (Some i) packets = i < length packets

-- the nodes after this change of node a
abbrev pub NodeChanges : ℕ → NodeChange → map.FinMap nat_cmp Member → map.FinMap nat_cmp Member → Type 0
NodeChanges a (change.Born p) nodes later = later ≡ map.insert nodes a (Live p)
NodeChanges a (change.Follows g) nodes later =
    (p : PeerState) × (q : PeerState) × (map.get nodes a ≡ Some (Live p)) × Follows p g q
    × (later ≡ map.insert nodes a (Live q))
NodeChanges a change.Crashes nodes later = later ≡ map.insert nodes a Gone

-- a node that is alive, before and after it followed the plan
abbrev pub MemberFollows : Member → Plan → Member → Type 0
MemberFollows m g n = (p : PeerState) × (q : PeerState) × (m ≡ Live p) × Follows p g q × (n ≡ Live q)

-- the nodes after the change of the named node. Without one they stay the same
abbrev pub NamedNodeChanges
    : Option (ℕ × NodeChange) → map.FinMap nat_cmp Member → map.FinMap nat_cmp Member → Type 0
NamedNodeChanges None nodes later = later ≡ nodes
NamedNodeChanges (Some n) nodes later = NodeChanges n.0 n.1 nodes later

-- node a can make this change: if it is to follow a plan, it is alive, and the plan is one for it
abbrev pub CanChange : ℕ → NodeChange → map.FinMap nat_cmp Member → Type 0
CanChange a (change.Born p) nodes = Unit {0}
CanChange a (change.Follows g) nodes = (p : PeerState) × (map.get nodes a ≡ Some (Live p)) × IsPlanFor p g
CanChange a change.Crashes nodes = Unit {0}

-- the named node, if there is one, can make its change
abbrev pub NamedCanChange : Option (ℕ × NodeChange) → map.FinMap nat_cmp Member → Type 0
NamedCanChange None nodes = Unit {0}
NamedCanChange (Some n) nodes = CanChange n.0 n.1 nodes

-- the packets after the effects b: one may be taken out, and some go last
abbrev pub packets_after : Net → Effects → List (ℕ × Message)
packets_after w b = taking b.taken w.packets ++ b.packets.items

-- after the effects b no more packets are on their way than there may be
abbrev pub HaveRoom : Net → Effects → Type 0
HaveRoom w b = length (packets_after w b) ≤ most_packets w.params

-- these are no more messages than one step may send
abbrev pub AreFew : List (ℕ × Message) → Type 0
AreFew sends = length sends ≤ step_packets

-- the effects send no more packets than one step may
abbrev pub SendFew : Effects → Type 0
SendFew b = AreFew b.packets.items

-- u is the world w after the effects b
pub record IsAfter (w : Net) (b : Effects) (u : Net) : Type 0 where
  pub params : u.params ≡ w.params
  pub nodes : NamedNodeChanges b.node w.nodes u.nodes
  pub packets : u.packets ≡ packets_after w b

-- the plan g is that of a step of a node in the state p, which takes the input with random choices drawn from the words
abbrev pub PlansInput : PeerState → Input → List ℕ → Plan → Type 0
PlansInput p i words g = DrawnFrom words (λ choices. Plans p i choices g)

-- node a, whose state is p, takes an input by a plan; the effects are those of the plan. The packet at the named
-- place, if there is one, is taken out
pub record AreEffectsOfPlan (a : ℕ) (taken : Option ℕ) (p : PeerState) (i : Input) (words : List ℕ) (b : Effects)
    : Type 0 where
  pub plan : Plan
  pub planned : PlansInput p i words plan
  pub node : b.node ≡ Some (a, change.Follows plan)
  pub place : b.taken ≡ taken
  pub packets : b.packets.items ≡ plan.sends.items
  pub changes : b.changes ≡ each (change_at a) plan.changes.items
  pub delivery : b.delivery ≡ plan.delivered

-- node a is born. From the state p it took its first input, and it is in the next state now. The effects have what it
-- sent and delivered; their changes are its birth and then the changes of its active view
pub record AreEffectsOfBirth (a : ℕ) (p : PeerState) (i : Input) (words : List ℕ) (b : Effects) : Type 0 where
  pub next : PeerState
  pub view_changes : List ViewChange
  pub steps : DrawnStep p i words next b.packets.items view_changes b.delivery
  pub node : b.node ≡ Some (a, change.Born next)
  pub place : b.taken ≡ None
  pub changes : b.changes ≡ Born a ∷ each (change_at a) view_changes

-- b are the effects of the event on the world w: the event leads to every world after them, and they can be put into
-- effect
pub record AreEffects (w : Net) (event : Event) (words : List ℕ) (b : Effects) : Type 0 where
  pub happens : (u : Net) → IsAfter w b u → Happens w event words u b.changes b.delivery
  pub within : IsWithin b.taken w.packets
  pub fits : NamedCanChange b.node w.nodes

-- the entry with this number of an event with these words, of which these are the effects
abbrev pub entry_of : Event → List ℕ → Effects → ℕ → Entry
entry_of event words b number =
    record { number = number; event = event; words = words; changes = b.changes; delivery = b.delivery }
