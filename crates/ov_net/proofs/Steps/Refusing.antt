-- The refusals of an event, step by step.
use Rattle.std.proofs.Common.{◌≡◌, ◌≤◌, ◌<◌, inl, inr, ℕ, length, Option, None, Some, ap}
use Rattle.std.specs.FinMap as map
use Rattle.ov_ids.specs.FaultOrder.{HoldsThen, Passed}
use Rattle.ov_ids.proofs.Stepping.{step_none, step_passes}
use Rattle.ov_wire.specs.Messages.{most_payload}
use Rattle.ov_peer.specs.PeerState.{PeerState}
use Rattle.ov_net.specs.Limits.{most_entries, most_world_nodes}
use Rattle.ov_net.specs.Net.{Net, LivesAs, IsGone}
use Rattle.ov_net.specs.Code.Refusals.{IsAbsent}
use Rattle.ov_net.specs.Refusals.{BirthLast, ContactThen, EventJudged, HasPlaces, HasTimer, IsBorn, IsRefusal}
use Rattle.ov_net.specs.Refusals.{LiveThen, MayBroadcast, MayHappen, PlacesLast}
use Rattle.ov_net.specs.declared.event.Event.{Event}
use Rattle.ov_net.specs.declared.event.Event.TheVariants.{Boot, Deliver, Lose, Repeat, Crash, CrashReport, Shuffle}
use Rattle.ov_net.specs.declared.event.Event.TheVariants.{Broadcast, Timer, Snapshot}
use Rattle.ov_net.specs.declared.fault.NetFault.{NetFault}
use Rattle.ov_net.specs.declared.fault.NetFault.TheVariants.{UnknownNode, UsedId, CrashedNode, TooManyNodes}
use Rattle.ov_net.specs.declared.fault.NetFault.TheVariants.{NoSuchPacket, TooManyPackets, TooManyEntries, NotCrashed}
use Rattle.ov_net.specs.declared.fault.NetFault.TheVariants.{NoTimer, PayloadTooLong, TooManyMessages, OutOfMemory}
use Rattle.ov_net.specs.declared.member.Member.{Member}
use Rattle.ov_net.specs.declared.member.Member.TheVariants.{Live, Gone}

born_as : (o : Option Member) (m : Member) → o ≡ Some m → ¬ (o ≡ None)
born_as o m e n = absurd cc

live_not_gone : (o : Option Member) (p : PeerState) → o ≡ Some (Live p) → ¬ (o ≡ Some Gone)
live_not_gone o p e n = absurd cc

-- a live node passes
pub live_then : (w : Net) (a : ℕ) (p : PeerState) (After : Option NetFault → Type 0) (answer : Option NetFault)
    → LivesAs w a p → After answer → LiveThen w a After answer
live_then w a p After answer lives then = inl (born_as _ _ lives, inl (live_not_gone _ p lives, then))

-- a node that is not alive is refused
pub absent_then : (w : Net) (a : ℕ) (After : Option NetFault → Type 0) (f : NetFault) → IsAbsent w a f
    → LiveThen w a After (Some f)
absent_then w a After f (inl h) = inr (λ b. b h.0, ap (λ (x : NetFault). Some x) h.1)
absent_then w a After f (inr h) = inl (born_as _ _ h.0, inr (λ n. n h.0, ap (λ (x : NetFault). Some x) h.1))

-- a judgement that passes has no fault
passed_alone : {E : Type 0} (f : E) → ¬ Passed (Some f)
passed_alone f h = absurd cc

-- a chain that passes has no fault, if the rest of it has none when it passes
step_alone : {E : Type 0} (P : Type 0) (e f : E) (After : Option E → Type 0) → (After None → ¬ After (Some f))
    → HoldsThen P e After None → ¬ HoldsThen P e After (Some f)
step_alone P e f After rest none some =
    let p = step_none P e After none in rest p.1 (step_passes P e After (Some f) p.0 some)

places_alone : (w : Net) (f : NetFault) → PlacesLast w None → ¬ PlacesLast w (Some f)
places_alone w f = step_alone (HasPlaces w) TooManyPackets f Passed (λ p. passed_alone f)

birth_alone : (w : Net) (f : NetFault) → BirthLast w None → ¬ BirthLast w (Some f)
birth_alone w f =
    step_alone (map.len w.nodes < most_world_nodes w.params) TooManyNodes f (PlacesLast w) (places_alone w f)

live_alone : (w : Net) (a : ℕ) (f : NetFault) (After : Option NetFault → Type 0) → (After None → ¬ After (Some f))
    → LiveThen w a After None → ¬ LiveThen w a After (Some f)
live_alone w a f After rest =
    step_alone (IsBorn w a) UnknownNode f (HoldsThen (¬ IsGone w a) CrashedNode After)
    (step_alone (¬ IsGone w a) CrashedNode f After rest)

contact_alone : (w : Net) (contact : Option ℕ) (f : NetFault) → ContactThen w contact (BirthLast w) None
    → ¬ ContactThen w contact (BirthLast w) (Some f)
contact_alone w None f = birth_alone w f
contact_alone w (Some a) f = live_alone w a f (BirthLast w) (birth_alone w f)

event_alone : (w : Net) (event : Event) (f : NetFault) → EventJudged w event None → ¬ EventJudged w event (Some f)
event_alone w (Boot a contact) f =
    step_alone (map.get w.nodes a ≡ None) UsedId f (ContactThen w contact (BirthLast w)) (contact_alone w contact f)
event_alone w (Deliver i) f =
    step_alone (i < length w.packets) NoSuchPacket f (PlacesLast w) (places_alone w f)
event_alone w (Lose i) f = step_alone (i < length w.packets) NoSuchPacket f Passed (λ p. passed_alone f)
event_alone w (Repeat i) f =
    step_alone (i < length w.packets) NoSuchPacket f (PlacesLast w) (places_alone w f)
event_alone w (Crash a) f = live_alone w a f Passed (λ p. passed_alone f)
event_alone w (CrashReport a crashed) f =
    live_alone w a f (HoldsThen (IsBorn w crashed) UnknownNode (HoldsThen (IsGone w crashed) NotCrashed (PlacesLast w)))
    (step_alone (IsBorn w crashed) UnknownNode f (HoldsThen (IsGone w crashed) NotCrashed (PlacesLast w))
    (step_alone (IsGone w crashed) NotCrashed f (PlacesLast w) (places_alone w f)))
event_alone w (Shuffle a) f = live_alone w a f (PlacesLast w) (places_alone w f)
event_alone w (Broadcast a payload) f =
    live_alone w a f
    (HoldsThen (length payload ≤ most_payload) PayloadTooLong
    (HoldsThen (MayBroadcast w a) TooManyMessages (PlacesLast w)))
    (step_alone (length payload ≤ most_payload) PayloadTooLong f
    (HoldsThen (MayBroadcast w a) TooManyMessages (PlacesLast w))
    (step_alone (MayBroadcast w a) TooManyMessages f (PlacesLast w) (places_alone w f)))
event_alone w (Timer a id) f =
    live_alone w a f (HoldsThen (HasTimer w a id) NoTimer (PlacesLast w))
    (step_alone (HasTimer w a id) NoTimer f (PlacesLast w) (places_alone w f))
event_alone w Snapshot f = λ p. passed_alone f

-- an event that may happen is refused for lack of memory alone
pub refused_for_memory : (w : Net) (entries : ℕ) (event : Event) (f : NetFault) → MayHappen w entries event
    → IsRefusal w entries event f → f ≡ OutOfMemory
refused_for_memory w entries event f may (inl judged) =
    absurd (step_alone (entries < most_entries w.params) TooManyEntries f (EventJudged w event)
    (event_alone w event f) may judged)
refused_for_memory w entries event f may (inr memory) = memory.0
