-- Why a world refuses an event. The refusals of each event have an order, and the first applicable one is returned.
-- Chosen here.
use Rattle.std.specs.Prelude.{◌≡◌, ◌≢◌, ℕ, ◌+◌, ◌<◌, ◌≤◌, IsTrue, length, Option, Some, None}
use Rattle.std.specs.FinMap as map
use Rattle.std.specs.FinSet as set
use Rattle.ov_ids.specs.FaultOrder.{HoldsThen, Passed, IsRefusedBy}
use Rattle.ov_ids.specs.declared.id.MsgId.{MsgId}
use Rattle.ov_wire.specs.Messages.{most_payload}
use Rattle.ov_plum.specs.PlumState.{most_broadcasts}
use Rattle.ov_peer.specs.PeerState.{PeerState}
use Rattle.ov_net.specs.Limits.{most_world_nodes, most_packets, step_packets, most_entries}
use Rattle.ov_net.specs.Net.{Net, LivesAs, IsGone}
use Rattle.ov_net.specs.declared.event.Event.{Event}
use Rattle.ov_net.specs.declared.event.Event.TheVariants.{Boot, Deliver, Lose, Repeat, Crash, CrashReport, Shuffle}
use Rattle.ov_net.specs.declared.event.Event.TheVariants.{Broadcast, Timer, Snapshot}
use Rattle.ov_net.specs.declared.fault.NetFault.{NetFault}
use Rattle.ov_net.specs.declared.fault.NetFault.TheVariants.{UnknownNode, UsedId, CrashedNode, TooManyNodes}
use Rattle.ov_net.specs.declared.fault.NetFault.TheVariants.{NoSuchPacket, TooManyPackets, TooManyEntries, NotCrashed}
use Rattle.ov_net.specs.declared.fault.NetFault.TheVariants.{NoTimer, PayloadTooLong, TooManyMessages}
use Rattle.ov_net.specs.declared.fault.NetFault.TheVariants.{OutOfMemory}

-- the number of each fault
abbrev pub number_of : NetFault → ℕ
number_of UnknownNode = 10
number_of UsedId = 11
number_of CrashedNode = 12
number_of TooManyNodes = 13
number_of NoSuchPacket = 14
number_of TooManyPackets = 15
number_of TooManyEntries = 16
number_of NotCrashed = 17
number_of NoTimer = 18
number_of PayloadTooLong = 19
number_of TooManyMessages = 20
number_of OutOfMemory = 99

-- a node with this id was born. It is live or gone
abbrev pub IsBorn : Net → ℕ → Type 0
IsBorn w a = map.get w.nodes a ≢ None

-- there is room for the packets of one step
abbrev pub HasPlaces : Net → Type 0
HasPlaces w = length w.packets + step_packets ≤ most_packets w.params

-- node a may broadcast once more
abbrev pub MayBroadcast : Net → ℕ → Type 0
MayBroadcast w a = (p : PeerState) → LivesAs w a p → p.tree.made < most_broadcasts

-- the timer of this message runs at node a
abbrev pub HasTimer : Net → ℕ → MsgId → Type 0
HasTimer w a id = (p : PeerState) → LivesAs w a p → IsTrue (set.contains p.tree.running id)

-- a must be born, else UnknownNode, and not gone, else CrashedNode; then `After` decides
abbrev pub LiveThen : Net → ℕ → (Option NetFault → Type 0) → Option NetFault → Type 0
LiveThen w a After answer = HoldsThen (IsBorn w a) UnknownNode (HoldsThen (¬ IsGone w a) CrashedNode After) answer

-- the contact, if there is one, must be born, else UnknownNode, and not gone, else CrashedNode; then `After` decides
abbrev pub ContactThen : Net → Option ℕ → (Option NetFault → Type 0) → Option NetFault → Type 0
ContactThen w None After answer = After answer
ContactThen w (Some contact) After answer = LiveThen w contact After answer

-- there must be room for the packets of one step, else TooManyPackets; no other refusal follows
abbrev pub PlacesLast : Net → Option NetFault → Type 0
PlacesLast w answer = HoldsThen (HasPlaces w) TooManyPackets Passed answer

-- there must be room for one more node, else TooManyNodes, and then for the packets of one step, else TooManyPackets;
-- no other refusal follows
abbrev pub BirthLast : Net → Option NetFault → Type 0
BirthLast w answer = HoldsThen (map.len w.nodes < most_world_nodes w.params) TooManyNodes (PlacesLast w) answer

-- the first applicable refusal of each event but those of `StepJudged`, or None if there is none
abbrev pub EventJudged : Net → Event → Option NetFault → Type 0
EventJudged w (Boot a contact) answer =
    HoldsThen (map.get w.nodes a ≡ None) UsedId (ContactThen w contact (BirthLast w)) answer
EventJudged w (Deliver i) answer = HoldsThen (i < length w.packets) NoSuchPacket (PlacesLast w) answer
EventJudged w (Lose i) answer = HoldsThen (i < length w.packets) NoSuchPacket Passed answer
EventJudged w (Repeat i) answer = HoldsThen (i < length w.packets) NoSuchPacket (PlacesLast w) answer
EventJudged w (Crash a) answer = LiveThen w a Passed answer
EventJudged w (CrashReport a crashed) answer =
    LiveThen w a
    (HoldsThen (IsBorn w crashed) UnknownNode (HoldsThen (IsGone w crashed) NotCrashed (PlacesLast w))) answer
EventJudged w (Shuffle a) answer = LiveThen w a (PlacesLast w) answer
EventJudged w (Broadcast a payload) answer =
    LiveThen w a
    (HoldsThen (length payload ≤ most_payload) PayloadTooLong
    (HoldsThen (MayBroadcast w a) TooManyMessages (PlacesLast w))) answer
EventJudged w (Timer a id) answer = LiveThen w a (HoldsThen (HasTimer w a id) NoTimer (PlacesLast w)) answer
EventJudged w Snapshot answer = Passed answer

-- the first applicable refusal of an event when the journal has this many entries, or None if there is none. That the
-- journal is full is the first refusal of every event
abbrev pub StepJudged : Net → ℕ → Event → Option NetFault → Type 0
StepJudged w entries event answer =
    HoldsThen (entries < most_entries w.params) TooManyEntries (EventJudged w event) answer

-- no refusal applies to the event
abbrev pub MayHappen : Net → ℕ → Event → Type 0
MayHappen w entries event = StepJudged w entries event None

-- the fault is the first applicable refusal, or out of memory if no refusal applies
abbrev pub IsRefusal : Net → ℕ → Event → NetFault → Type 0
IsRefusal w entries event fault = IsRefusedBy OutOfMemory (StepJudged w entries event) fault
