-- The log of broadcasts: which ones were made since the last snapshot, and which of Plumtree's messages nodes sent
-- (Leitão, Pereira, Rodrigues, SRDS 2007). That it is kept is chosen here.
use Rattle.std.specs.Prelude.{ℕ, ◌-◌, List, [], ◌∷◌, ◌++◌, length, drop, Option, Some, None, option_map}
use Rattle.std.specs.FinMap as map
use Rattle.std.specs.Option.{option_to_list}
use Rattle.ov_ids.specs.declared.id.MsgId.{MsgId}
use Rattle.ov_wire.specs.declared.message.Body.{Body}
use Rattle.ov_wire.specs.declared.message.Body.TheVariants as says
use Rattle.ov_wire.specs.declared.message.Message.{Message}
use Rattle.ov_net.specs.Net.{Net}
use Rattle.ov_net.specs.declared.event.Event.{Event}
use Rattle.ov_net.specs.declared.event.Event.TheVariants as event
use Rattle.ov_net.specs.declared.member.Member.{Member}
use Rattle.ov_net.specs.declared.member.Member.TheVariants.{Live}
use Rattle.ov_grow.specs.declared.broadcast_log.BroadcastMark.{BroadcastMark}
use Rattle.ov_grow.specs.declared.broadcast_log.BroadcastMark.TheVariants as mark

-- what the log tells of a message that was sent and says this: that it is GOSSIP, IHAVE or GRAFT, with the id of the
-- broadcast, or PRUNE; nothing of other messages
abbrev pub mark_of : Body → Option BroadcastMark
mark_of (says.Gossip id round payload) = Some (mark.Gossip id)
mark_of (says.IHave id) = Some (mark.Ihave id)
mark_of (says.Graft id) = Some (mark.Graft id)
mark_of says.Prune = Some mark.Prune
mark_of other = None

-- what the log tells of these packets that were sent, in their order
abbrev pub sent_marks : List (ℕ × Message) → List BroadcastMark
sent_marks [] = []
sent_marks (packet ∷ more) = option_to_list (mark_of packet.1.body) ++ sent_marks more

-- the packets that nodes sent by an event, of those on their way before and after it. What is sent goes last, and a
-- packet that is delivered is taken out. Nothing is sent if a packet is lost or repeated: a copy is not sent
abbrev pub sent_by : Event → List (ℕ × Message) → List (ℕ × Message) → List (ℕ × Message)
sent_by (event.Deliver place) before after = drop (length before - 1) after
sent_by (event.Lose place) before after = []
sent_by (event.Repeat place) before after = []
sent_by other before after = drop (length before) after

-- the id of the next broadcast of a node that is such a member, if it lives
abbrev pub next_id : ℕ → Option Member → Option MsgId
next_id node (Some (Live p)) = Some (record { origin = node; seq = p.tree.made })
next_id node other = None

-- the id of the broadcast that is made by an event in this world, if one is
abbrev pub made_by : Event → Net → Option MsgId
made_by (event.Broadcast node payload) w = next_id node (map.get w.nodes node)
made_by other w = None

-- what stays in the log at an event: nothing at a snapshot
abbrev pub marks_kept : Event → List BroadcastMark → List BroadcastMark
marks_kept event.Snapshot marks = []
marks_kept other marks = marks

-- the log after an event by which the world w became u
abbrev pub marks_after : Event → Net → Net → List BroadcastMark → List BroadcastMark
marks_after what w u marks =
    marks_kept what marks
    ++ (option_to_list (option_map mark.Made (made_by what w)) ++ sent_marks (sent_by what w.packets u.packets))
