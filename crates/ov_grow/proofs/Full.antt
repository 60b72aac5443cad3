-- Of the world's refusals only that of a full journal and that of too few places for packets end turns, rounds and
-- births.
use Rattle.std.proofs.Common.{◌≡◌, ◌≢◌, ◌<◌, ◌≤◌, ◌+◌, ℕ, true, false, List, [], ◌∷◌, length, Option, Some, None}
use Rattle.std.proofs.Common.{refl, sym, ap, subst, ◌∙◌, inl, inr, ◌⊎◌, arith, length-append}
use Rattle.std.specs.Prelude.{remove}
use Rattle.std.specs.FinMap as map
use Rattle.std.proofs.lemmas.Option.{same_Some}
use Rattle.std.specs.Prelude.{IsTrue}
use Rattle.std.specs.FinSet as set
use Rattle.ov_ids.specs.declared.id.MsgId.{MsgId}
use Rattle.ov_wire.specs.Messages.{most_payload}
use Rattle.ov_grow.specs.Broadcasts.{TimerRuns}
use Rattle.ov_grow.proofs.Living.{one_state}
use Rattle.ov_ids.specs.FaultOrder.{HoldsThen, Passed}
use Rattle.ov_ids.proofs.Scales.{born_within}
use Rattle.ov_ids.proofs.Stepping.{step_passes}
use Rattle.ov_wire.specs.declared.message.Message.{Message}
use Rattle.ov_peer.specs.PeerState.{PeerState}
use Rattle.ov_peer.specs.declared.input_and_output.Delivery.{Delivery}
use Rattle.ov_net.specs.Limits.{most_world_nodes}
use Rattle.ov_net.specs.Net.{Net, LivesAs, IsGone}
use Rattle.ov_net.specs.NetStep.{Received}
use Rattle.ov_net.specs.Refusals.{BirthLast, ContactThen, EventJudged, HasPlaces, HasTimer, IsBorn, IsRefusal, LiveThen}
use Rattle.ov_net.specs.Refusals.{MayBroadcast, PlacesLast}
use Rattle.ov_net.specs.declared.event.Event.{Event}
use Rattle.ov_net.specs.declared.event.Event.TheVariants as event
use Rattle.ov_net.specs.declared.fault.NetFault.{NetFault}
use Rattle.ov_net.specs.declared.fault.NetFault.TheVariants.{UnknownNode, CrashedNode, NoSuchPacket, NotCrashed}
use Rattle.ov_net.specs.declared.fault.NetFault.TheVariants.{TooManyEntries, TooManyNodes, TooManyPackets, UsedId}
use Rattle.ov_net.specs.declared.fault.NetFault.TheVariants.{NoTimer, PayloadTooLong, TooManyMessages}
use Rattle.ov_net.specs.declared.journal_entry_and_changes.Change.{Change}
use Rattle.ov_net.specs.declared.member.Member.{Member}
use Rattle.ov_net.specs.declared.member.Member.TheVariants.{Live, Gone}
use Rattle.ov_script.specs.declared.recordable_event.Act.TheVariants as act
use Rattle.ov_grow.specs.Faults.{IsFull, of_event}
use Rattle.ov_grow.specs.Growth.{Growth, Does, IsLive, SomebodyLives}
use Rattle.ov_grow.specs.declared.fault.GrowFault.TheVariants.{OutOfMemory}
use Rattle.ov_grow.specs.Turns.{MayBeRepeated}
use Rattle.ov_grow.specs.Code.Standing.{AreBorn, Fails, IsRefusedAct, MayBeTold, MayMake, growth_of}
use Rattle.ov_grow.specs.declared.fault.GrowFault.{GrowFault}
use Rattle.ov_grow.specs.declared.growth_in_progress.Growing.{Growing}
use Rattle.ov_grow.specs.declared.phase_rules.PhaseRules.{PhaseRules}

-- the end of a chain has no fault
passed_some : {E : Type 0} (f : E) → ¬ Passed (Some f)
passed_some f none = absurd cc

-- the fault of a failed condition
failed_some : {E : Type 0} (P : Type 0) (e f : E) → HoldsThen P e Passed (Some f) → f ≡ e
failed_some P e f (inl passed) = absurd (passed_some f passed.1)
failed_some P e f (inr failed) = same_Some f e failed.1

-- an event that is refused at most for its places for packets
pub refused_full : (w : Net) (n : ℕ) (what : Event) (f : NetFault)
    → (EventJudged w what (Some f) → f ≡ TooManyPackets) → IsRefusal w n what f → IsFull (of_event f)
refused_full w n what f places (inl (inl (room, judged))) = inr (inl (ap of_event (places judged)))
refused_full w n what f places (inl (inr (full, is))) = inl (ap of_event (same_Some f TooManyEntries is))
refused_full w n what f places (inr (memory, judged)) = inr (inr (ap of_event memory))

pub lose_full : (w : Net) (i : ℕ) (f : NetFault) → i < length w.packets → EventJudged w (event.Lose i) (Some f)
    → f ≡ TooManyPackets
lose_full w i f within judged =
    absurd (passed_some f (step_passes (i < length w.packets) NoSuchPacket Passed (Some f) within judged))

pub repeat_full : (w : Net) (i : ℕ) (f : NetFault) → i < length w.packets → EventJudged w (event.Repeat i) (Some f)
    → f ≡ TooManyPackets
repeat_full w i f within judged =
    failed_some (HasPlaces w) TooManyPackets f
    (step_passes (i < length w.packets) NoSuchPacket (PlacesLast w) (Some f) within judged)

pub deliver_full : (w : Net) (i : ℕ) (f : NetFault) → i < length w.packets → EventJudged w (event.Deliver i) (Some f)
    → f ≡ TooManyPackets
deliver_full w i f within judged =
    failed_some (HasPlaces w) TooManyPackets f
    (step_passes (i < length w.packets) NoSuchPacket (PlacesLast w) (Some f) within judged)

-- who lives was born, and is not gone
lives_born : (m : Option Member) (p : PeerState) → m ≡ Some (Live p) → m ≢ None
lives_born m p lives none = absurd cc

lives_not_gone : (m : Option Member) (p : PeerState) → m ≡ Some (Live p) → ¬ (m ≡ Some Gone)
lives_not_gone m p lives gone = absurd cc

gone_born : (m : Option Member) → m ≡ Some Gone → m ≢ None
gone_born m gone none = absurd cc

-- a live node passes
live_passes : (w : Net) (a : ℕ) (p : PeerState) (After : Option NetFault → Type 0) (f : NetFault) → LivesAs w a p
    → LiveThen w a After (Some f) → After (Some f)
live_passes w a p After f lives judged =
    step_passes (¬ IsGone w a) CrashedNode After (Some f) (lives_not_gone (map.get w.nodes a) p lives)
    (step_passes (IsBorn w a) UnknownNode (HoldsThen (¬ IsGone w a) CrashedNode After) (Some f)
    (lives_born (map.get w.nodes a) p lives) judged)

pub report_full : (w : Net) (a crashed : ℕ) (p : PeerState) (f : NetFault) → LivesAs w a p → IsGone w crashed
    → EventJudged w (event.CrashReport a crashed) (Some f) → f ≡ TooManyPackets
report_full w a crashed p f lives gone judged =
    let Crashed : Option NetFault → Type 0 = HoldsThen (IsGone w crashed) NotCrashed (PlacesLast w) in
    let Known : Option NetFault → Type 0 = HoldsThen (IsBorn w crashed) UnknownNode Crashed in
    failed_some (HasPlaces w) TooManyPackets f
    (step_passes (IsGone w crashed) NotCrashed (PlacesLast w) (Some f) gone
    (step_passes (IsBorn w crashed) UnknownNode Crashed (Some f) (gone_born (map.get w.nodes crashed) gone)
    (live_passes w a p Known f lives judged)))

-- a packet that may have been repeated is still there
pub still_there : (rules : PhaseRules) (place : ℕ) (s u : Growth) → MayBeRepeated rules place s u
    → place < length s.world.net.packets → place < length u.world.net.packets
still_there rules place s u (true, t, tries, did) within =
    let (packet, at, same) = did.step.step.2 in
    let there : place < length t.world.net.packets =
    subst (λ (g : Growth). place < length g.world.net.packets) (sym tries.1) within in
    let more : length u.world.net.packets ≡ length t.world.net.packets + 1 =
    ap (λ (w : Net). length w.packets) same.0 ∙ length-append t.world.net.packets (packet ∷ []) in
    omega (arith, there, more)
still_there rules place s u (false, t, tries, same) within =
    subst (λ (g : Growth). place < length g.world.net.packets) (sym (same ∙ tries.1)) within

-- a packet whose receiver crashed changes no node
nothing_received : (w u : Net) (a : ℕ) (m : Message) (o : Option Member) (words : List ℕ) (changes : List Change)
    (delivery : Option Delivery) → o ≡ Some Gone → Received w a m o words u changes delivery → u.nodes ≡ w.nodes
nothing_received w u a m (Some (Live p)) words changes delivery gone received = absurd cc
nothing_received w u a m (Some Gone) words changes delivery gone received = ap (λ (x : Net). x.nodes) received.0
nothing_received w u a m None words changes delivery gone received = absurd cc

-- after a connection failed the sender still lives, and the receiver is still gone
pub may_be_told : (s t : Growth) (place : ℕ) (failed : Option (ℕ × ℕ)) → Fails s place failed
    → Does s (act.Deliver place) t → MayBeTold failed t
may_be_told s t place (Some (sender, receiver)) (packet, at, fails, from, to) did =
    let (other, there, received) = did.step.step.2 in
    let same : packet ≡ other = same_Some packet other (sym at ∙ there) in
    let gone : map.get s.world.net.nodes other.0 ≡ Some Gone =
    subst (λ (p : ℕ × Message). map.get s.world.net.nodes p.0 ≡ Some Gone) same fails.0 in
    let nodes : t.world.net.nodes ≡ s.world.net.nodes =
    nothing_received (record s.world.net { packets = remove s.world.net.packets place }) t.world.net other.0 other.1
    (map.get s.world.net.nodes other.0) did.words did.entry.changes did.entry.delivery gone received in (
      subst (λ n. (p : PeerState) × (map.get n sender ≡ Some (Live p))) (sym nodes)
          (subst (λ a. IsLive s a) (sym from) fails.1),
      subst (λ n. map.get n receiver ≡ Some Gone) (sym nodes) (subst (λ a. IsGone s.world.net a) (sym to) fails.0),
    )
may_be_told s t place None fails did = tt

-- a packet that is on its way is refused to be lost, repeated or delivered at most for room
pub lost_full : (b : Growing) (place : ℕ) (fault : GrowFault) → place < length b.recording.core.world.net.packets
    → IsRefusedAct (act.Lose place) b fault → IsFull fault
lost_full b place fault within (f, is, refused) =
    let w = b.recording.core.world in
    subst IsFull (sym is) (refused_full w.net (length w.journal) (event.Lose place) f
    (lose_full w.net place f within) refused)

pub repeated_full : (b : Growing) (place : ℕ) (fault : GrowFault) → place < length b.recording.core.world.net.packets
    → IsRefusedAct (act.Repeat place) b fault → IsFull fault
repeated_full b place fault within (f, is, refused) =
    let w = b.recording.core.world in
    subst IsFull (sym is) (refused_full w.net (length w.journal) (event.Repeat place) f
    (repeat_full w.net place f within) refused)

pub delivered_full : (b : Growing) (place : ℕ) (fault : GrowFault) → place < length b.recording.core.world.net.packets
    → IsRefusedAct (act.Deliver place) b fault → IsFull fault
delivered_full b place fault within (f, is, refused) =
    let w = b.recording.core.world in
    subst IsFull (sym is) (refused_full w.net (length w.journal) (event.Deliver place) f
    (deliver_full w.net place f within) refused)

-- a crash report of a node that crashed, to a node that lives, is refused at most for room
pub told_full : (b : Growing) (sender receiver : ℕ) (fault : GrowFault) → IsLive (growth_of b) sender
    → IsGone b.recording.core.world.net receiver → IsRefusedAct (act.CrashReport sender receiver) b fault
    → IsFull fault
told_full b sender receiver fault (p, lives) gone (f, is, refused) =
    let w = b.recording.core.world in
    subst IsFull (sym is) (refused_full w.net (length w.journal) (event.CrashReport sender receiver) f
    (report_full w.net sender receiver p f lives gone) refused)

-- no node lives or is gone that was not born
not_born : (o : Option Member) → ¬ (o ≢ None) → o ≡ None
not_born None none = refl
not_born (Some m) none = absurd (none (λ same. absurd cc))

-- a birth is refused at most for its places for packets, if the id is new, there is room for a node, and the contact
-- lives
birth_full : (w : Net) (f : NetFault) → map.len w.nodes < most_world_nodes w.params → BirthLast w (Some f)
    → f ≡ TooManyPackets
birth_full w f room judged =
    failed_some (HasPlaces w) TooManyPackets f
    (step_passes (map.len w.nodes < most_world_nodes w.params) TooManyNodes (PlacesLast w) (Some f) room judged)

first_full : (w : Net) (id : ℕ) (f : NetFault) → map.get w.nodes id ≡ None → map.len w.nodes < most_world_nodes w.params
    → EventJudged w (event.Boot id None) (Some f) → f ≡ TooManyPackets
first_full w id f fresh room judged =
    birth_full w f room (step_passes (map.get w.nodes id ≡ None) UsedId (ContactThen w None (BirthLast w)) (Some f)
    fresh judged)

next_full : (w : Net) (id contact : ℕ) (p : PeerState) (f : NetFault) → map.get w.nodes id ≡ None
    → map.len w.nodes < most_world_nodes w.params → LivesAs w contact p
    → EventJudged w (event.Boot id (Some contact)) (Some f) → f ≡ TooManyPackets
next_full w id contact p f fresh room lives judged =
    birth_full w f room
    (live_passes w contact p (BirthLast w) f lives
    (step_passes (map.get w.nodes id ≡ None) UsedId (ContactThen w (Some contact) (BirthLast w)) (Some f) fresh judged))

-- the id that comes next is new, and there is room for its node
id_is_new : (n id : ℕ) (s : Growth) → AreBorn n s → id ≡ n + 1 → map.get s.world.net.nodes id ≡ None
id_is_new n id s born is =
    not_born (map.get s.world.net.nodes id) (λ has. let least = born.born id has in omega (arith, least, is))

-- the first node is refused to be born at most for room
pub first_born_full : (b : Growing) (id : ℕ) (fault : GrowFault) → id ≡ 1 → AreBorn 0 (growth_of b)
    → IsRefusedAct (act.Boot id None) b fault → IsFull fault
first_born_full b id fault one born (f, is, refused) =
    let w = b.recording.core.world in
    let room : map.len w.net.nodes < most_world_nodes w.net.params =
    omega (arith, born.count, (born_within w.net.params.scale).0) in
    subst IsFull (sym is) (refused_full w.net (length w.journal) (event.Boot id None) f
    (first_full w.net id f (id_is_new 0 id (growth_of b) born one) room) refused)

-- and so is the next one, by a contact that was born before
pub next_born_full : (b : Growing) (n id contact : ℕ) (fault : GrowFault) → AreBorn n (growth_of b) → id ≡ n + 1
    → 1 ≤ contact → contact ≤ n → n < most_world_nodes b.recording.core.world.net.params
    → IsRefusedAct (act.Boot id (Some contact)) b fault → IsFull fault
next_born_full b n id contact fault born is least most few (f, same, refused) =
    let w = b.recording.core.world in
    let room : map.len w.net.nodes < most_world_nodes w.net.params = omega (arith, born.count, few) in
    let (p, lives) = born.live contact least most in
    subst IsFull (sym same) (refused_full w.net (length w.journal) (event.Boot id (Some contact)) f
    (next_full w.net id contact p f (id_is_new n id (growth_of b) born is) room lives) refused)

-- a live node is refused to shuffle at most for room
shuffle_judged : (w : Net) (a : ℕ) (p : PeerState) (f : NetFault) → LivesAs w a p
    → EventJudged w (event.Shuffle a) (Some f) → f ≡ TooManyPackets
shuffle_judged w a p f lives judged =
    failed_some (HasPlaces w) TooManyPackets f (live_passes w a p (PlacesLast w) f lives judged)

pub shuffled_full : (b : Growing) (node : ℕ) (fault : GrowFault) → IsLive (growth_of b) node
    → IsRefusedAct (act.Shuffle node) b fault → IsFull fault
shuffled_full b node fault (p, lives) (f, is, refused) =
    let w = b.recording.core.world in
    subst IsFull (sym is) (refused_full w.net (length w.journal) (event.Shuffle node) f
    (shuffle_judged w.net node p f lives) refused)

-- a live node may broadcast, if it has made fewer broadcasts than it may
broadcast_judged : (w : Net) (a : ℕ) (p : PeerState) (f : NetFault) → LivesAs w a p → MayBroadcast w a
    → EventJudged w (event.Broadcast a []) (Some f) → f ≡ TooManyPackets
broadcast_judged w a p f lives may judged =
    let nothing : List ℕ = [] in
    let Made : Option NetFault → Type 0 = HoldsThen (MayBroadcast w a) TooManyMessages (PlacesLast w) in
    let short : length nothing ≤ most_payload = omega arith in
    failed_some (HasPlaces w) TooManyPackets f
    (step_passes (MayBroadcast w a) TooManyMessages (PlacesLast w) (Some f) may
    (step_passes (length nothing ≤ most_payload) PayloadTooLong Made (Some f) short
    (live_passes w a p (HoldsThen (length nothing ≤ most_payload) PayloadTooLong Made) f lives judged)))

pub broadcast_full : (b : Growing) (node : ℕ) (fault : GrowFault) → IsLive (growth_of b) node
    → MayMake 1 (growth_of b) → IsRefusedAct (act.Broadcast node) b fault → IsFull fault
broadcast_full b node fault (p, lives) (k, most, few) (f, is, refused) =
    let w = b.recording.core.world in
    subst IsFull (sym is) (refused_full w.net (length w.journal) (event.Broadcast node []) f
    (broadcast_judged w.net node p f lives
    (λ q living. let least = most node q living in omega (arith, least, few))) refused)

-- a timer that runs may fire
timer_judged : (w : Net) (a : ℕ) (id : MsgId) (p : PeerState) (f : NetFault) → LivesAs w a p → HasTimer w a id
    → EventJudged w (event.Timer a id) (Some f) → f ≡ TooManyPackets
timer_judged w a id p f lives runs judged =
    failed_some (HasPlaces w) TooManyPackets f
    (step_passes (HasTimer w a id) NoTimer (PlacesLast w) (Some f) runs
    (live_passes w a p (HoldsThen (HasTimer w a id) NoTimer (PlacesLast w)) f lives judged))

pub timer_full : (b : Growing) (node : ℕ) (id : MsgId) (fault : GrowFault) → TimerRuns (growth_of b) node id
    → IsRefusedAct (act.Timer node id) b fault → IsFull fault
timer_full b node id fault (p, lives, runs) (f, is, refused) =
    let w = b.recording.core.world in
    subst IsFull (sym is) (refused_full w.net (length w.journal) (event.Timer node id) f
    (timer_judged w.net node id p f lives
    (λ q living. subst (λ (x : PeerState). IsTrue (set.contains x.tree.running id))
    (one_state p q (sym lives ∙ living)) runs)) refused)

-- a snapshot may always be taken
pub snapshot_full : (b : Growing) (f : NetFault)
    → IsRefusal b.recording.core.world.net (length b.recording.core.world.journal) event.Snapshot f
    → IsFull (of_event f)
snapshot_full b f refused =
    let w = b.recording.core.world in
    refused_full w.net (length w.journal) event.Snapshot f (λ judged. absurd (passed_some f judged)) refused

-- a live node may crash
pub crash_full : (b : Growing) (node : ℕ) (fault : GrowFault) → IsLive (growth_of b) node
    → IsRefusedAct (act.Crash node) b fault → IsFull fault
crash_full b node fault (p, lives) (f, is, refused) =
    let w = b.recording.core.world in
    subst IsFull (sym is) (refused_full w.net (length w.journal) (event.Crash node) f
    (λ judged. absurd (passed_some f (live_passes w.net node p Passed f lives judged))) refused)

-- where some node lives, an analysis is refused for memory alone
pub analysis_full : (s : Growth) (fault : GrowFault) → (fault ≡ OutOfMemory) ⊎ (¬ SomebodyLives s) → SomebodyLives s
    → IsFull fault
analysis_full s fault (inl memory) lives = inr (inr memory)
analysis_full s fault (inr none) lives = absurd (none lives)
