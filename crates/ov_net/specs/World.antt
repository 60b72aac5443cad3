-- A world with its journal, and the invariant of every world. Defined here.
use Rattle.std.specs.Prelude.{◌≡◌, ◌≢◌, ◌↔◌, ℕ, ◌+◌, ◌<◌, ◌≤◌, List, [], length, slice_get, Some, None}
use Rattle.std.specs.FinMap as map
use Rattle.ov_ids.specs.ParamsState.{ParamsState}
use Rattle.ov_ids.specs.Members.{Has}
use Rattle.ov_ids.specs.declared.id.MsgId.{MsgId}
use Rattle.ov_wire.specs.declared.message.Body.TheVariants.{Gossip}
use Rattle.ov_graph.specs.Links.{LinkGraph}
use Rattle.ov_peer.specs.PeerState.{PeerState}
use Rattle.ov_plum.specs.PlumState.{HeldState}
use Rattle.ov_net.specs.Journal.{changes_of, node_of, AreLinks, HasActive, Live, Delivers, DeliversOnce}
use Rattle.ov_net.specs.Limits.{most_world_nodes, most_packets, most_entries}
use Rattle.ov_net.specs.Net.{Net, LivesAs, HaveOwnIds}
use Rattle.ov_net.specs.declared.journal_entry_and_changes.Change.{Change}
use Rattle.ov_net.specs.declared.journal_entry_and_changes.Entry.{Entry}
use Rattle.ov_net.specs.declared.event.Event.TheVariants.{Broadcast}

-- the nodes and packets as they are now, and the journal of all events so far
pub record WorldState : Type 0 where
  pub net : Net
  pub journal : List Entry

-- the world in which nothing has happened
abbrev pub opening_world : ParamsState → WorldState
opening_world params = record { net = record { params = params; nodes = map.empty; packets = [] }; journal = [] }

-- the journal says who is alive now, and whom each live node holds in its active view. No change in it is of a node
-- that was never born
pub record TellsViews (c : WorldState) : Type 0 where
  pub live : (a : ℕ) → Live c.journal (length c.journal) a ↔ ((p : PeerState) × LivesAs c.net a p)
  pub held : (a b : ℕ) (p : PeerState)
      → LivesAs c.net a p → (Has p.hyparview.views.active b ↔ HasActive c.journal (length c.journal) a b)
  pub unborn : (a : ℕ) (change : Change)
      → map.get c.net.nodes a ≡ None → Has (changes_of c.journal) change → node_of change ≢ a

-- some entry is a broadcast of this payload by the origin of this id, which delivered it there with this id
abbrev pub WasBroadcast : List Entry → MsgId → List ℕ → Type 0
WasBroadcast journal id payload =
    (i : ℕ) × (e : Entry) × (slice_get journal i ≡ Some e)
    × (e.event ≡ Broadcast id.origin payload) × Delivers e id.origin id payload

-- every message can be traced to its broadcast. No message is delivered twice at a node. A node that delivered a
-- message was born, and stores the message as long as it is alive. Each stored message and each GOSSIP on its way was
-- broadcast. The next broadcast of a live node has a higher number than all its earlier ones
pub record Traced (c : WorldState) : Type 0 where
  pub once : DeliversOnce c.journal
  pub born : (i : ℕ) (e : Entry) (n : ℕ) (id : MsgId) (payload : List ℕ)
      → slice_get c.journal i ≡ Some e → Delivers e n id payload → map.get c.net.nodes n ≢ None
  pub kept : (i : ℕ) (e : Entry) (n : ℕ) (id : MsgId) (payload : List ℕ) (p : PeerState)
      → slice_get c.journal i ≡ Some e → Delivers e n id payload → LivesAs c.net n p → map.get p.tree.held id ≢ None
  pub held : (n : ℕ) (p : PeerState) (id : MsgId) (k : HeldState)
      → LivesAs c.net n p → map.get p.tree.held id ≡ Some k → WasBroadcast c.journal id k.payload
  pub sent : (i to from : ℕ) (id : MsgId) (round : ℕ) (payload : List ℕ)
      → slice_get c.net.packets i ≡ Some (to, record { from = from; body = Gossip id round payload })
      → WasBroadcast c.journal id payload
  pub next : (id : MsgId) (payload : List ℕ) (p : PeerState)
      → WasBroadcast c.journal id payload → LivesAs c.net id.origin p → id.seq < p.tree.made

-- the invariant of every world: it keeps the limits, its entries are numbered from 1, each node is stored under its
-- own id, the journal says who is alive and whom each node holds, and messages can be traced
pub record Stands (c : WorldState) : Type 0 where
  pub nodes : map.len c.net.nodes ≤ most_world_nodes c.net.params
  pub packets : length c.net.packets ≤ most_packets c.net.params
  pub entries : length c.journal ≤ most_entries c.net.params
  pub numbered : (i : ℕ) (e : Entry) → slice_get c.journal i ≡ Some e → e.number ≡ i + 1
  pub own : HaveOwnIds c.net
  pub tells : TellsViews c
  pub traced : Traced c

-- at no moment were more nodes alive than may ever be born
abbrev pub HasFewNodes : ParamsState → List Entry → Type 0
HasFewNodes params journal =
    (m : ℕ) (g : LinkGraph) → AreLinks journal m g → length g.nodes ≤ most_world_nodes params
