-- The effects of an event, and that they are a step of the world.
use Rattle.std.proofs.Common.{◌≡◌, ◌≤◌, ◌<◌, ◌+◌, ℕ, zero, suc, arith, append-nil, length-append, ap, ◌∙◌, Result, IfOk}
use Rattle.std.proofs.Common.{List, [], ◌∷◌, ◌++◌, map as each, length, Option, None, Some, subst, refl, sym}
use Rattle.std.proofs.lemmas.Result.{IfOk-weaker}
use Rattle.std.specs.Prelude.{remove, slice_get}
use Rattle.std.specs.FinMap as map
use Rattle.ov_ids.specs.FaultOrder.{HoldsThen, Passed}
use Rattle.ov_ids.specs.declared.id.MsgId.{MsgId}
use Rattle.ov_ids.proofs.Stepping.{step_none}
use Rattle.ov_wire.specs.Messages.{most_payload}
use Rattle.ov_wire.specs.declared.message.Message.{Message}
use Rattle.ov_views.specs.declared.change.ViewChange.{ViewChange}
use Rattle.ov_peer.specs.Planning.{Follows, IsPlanFor}
use Rattle.ov_peer.specs.PeerState.{PeerState, newborn}
use Rattle.ov_peer.specs.declared.input_and_output.Input.{Input}
use Rattle.ov_peer.specs.declared.input_and_output.Input.TheVariants as input
use Rattle.ov_peer.proofs.Following.{drawn_step}
use Rattle.ov_net.specs.Code.Effects.{AreEffectsOfPlan, AreEffectsOfBirth, AreEffects, HaveRoom, SendFew}
use Rattle.ov_net.specs.Code.Effects.{IsAfter, IsWithin, NamedCanChange, NamedNodeChanges, taking, packets_after}
use Rattle.ov_net.specs.Limits.{most_world_nodes, most_packets, most_entries}
use Rattle.ov_net.specs.Net.{Net, LivesAs, IsGone}
use Rattle.ov_net.specs.NetStep.{change_at, DrawnStep, TakesInput, LiveTakesInput, Received, Happens}
use Rattle.ov_net.specs.Refusals.{IsBorn, HasPlaces, MayBroadcast, HasTimer, LiveThen, ContactThen, BirthLast}
use Rattle.ov_net.specs.Refusals.{PlacesLast, EventJudged, MayHappen}
use Rattle.ov_net.specs.declared.planned_effects.Effects.{Effects}
use Rattle.ov_net.specs.declared.planned_effects.NodeChange.{NodeChange}
use Rattle.ov_net.specs.declared.planned_effects.NodeChange.TheVariants as change
use Rattle.ov_net.specs.declared.journal_entry_and_changes.Change.TheVariants as entry
use Rattle.ov_net.specs.declared.event.Event.{Event}
use Rattle.ov_net.specs.declared.event.Event.TheVariants.{Boot, Deliver, Lose, Repeat, Crash, CrashReport, Shuffle}
use Rattle.ov_net.specs.declared.event.Event.TheVariants.{Broadcast, Timer, Snapshot}
use Rattle.ov_net.specs.declared.fault.NetFault.{NetFault}
use Rattle.ov_net.specs.declared.fault.NetFault.TheVariants.{UnknownNode, UsedId, CrashedNode, TooManyNodes}
use Rattle.ov_net.specs.declared.fault.NetFault.TheVariants.{NoSuchPacket, TooManyPackets, TooManyEntries, NotCrashed}
use Rattle.ov_net.specs.declared.fault.NetFault.TheVariants.{NoTimer, TooManyMessages, PayloadTooLong}
use Rattle.ov_net.specs.declared.member.Member.{Member}
use Rattle.ov_net.specs.declared.member.Member.TheVariants.{Live, Gone}

-- the effects of a node that is born and took its first input
pub born_by : (a : ℕ) (p : PeerState) (i : Input) (words : List ℕ) (q : PeerState) (sends : List (ℕ × Message))
    (view_changes : List ViewChange) (b : Effects)
    → b.node ≡ Some (a, change.Born q) → b.taken ≡ None → DrawnStep p i words q sends view_changes b.delivery
    → b.packets.items ≡ sends → b.changes ≡ entry.Born a ∷ each (change_at a) view_changes
    → AreEffectsOfBirth a p i words b
born_by a p i words q sends view_changes b node place steps packets changes = record {
  next = q;
  view_changes = view_changes;
  steps = subst (λ s. DrawnStep p i words q s view_changes b.delivery) (sym packets) steps;
  node = node;
  place = place;
  changes = changes;
}

-- a live node has one state
node_or : PeerState → Option Member → PeerState
node_or p None = p
node_or p (Some Gone) = p
node_or p (Some (Live q)) = q

same_node : (o : Option Member) (p q : PeerState) → o ≡ Some (Live p) → o ≡ Some (Live q) → p ≡ q
unfolding node_or
same_node o p q a b = ap (node_or p) (sym a ∙ b)

-- how the named node changes
node_changes_as : (w u : Net) (b : Effects) (n : Option (ℕ × NodeChange)) → b.node ≡ n → IsAfter w b u
    → NamedNodeChanges n w.nodes u.nodes
node_changes_as w u b n is after = subst (λ x. NamedNodeChanges x w.nodes u.nodes) is after.nodes

packets_as : (w u : Net) (b : Effects) (taken : Option ℕ) → b.taken ≡ taken → IsAfter w b u
    → u.packets ≡ taking taken w.packets ++ b.packets.items
packets_as w u b taken is after = after.packets ∙ ap (λ t. taking t w.packets ++ b.packets.items) is

-- a live node takes an input, in the world without the packet that is taken out
takes_input : (w u : Net) (a : ℕ) (p : PeerState) (i : Input) (words : List ℕ) (b : Effects) (taken : Option ℕ)
    → LivesAs w a p → AreEffectsOfPlan a taken p i words b → IsAfter w b u
    → TakesInput (record w { packets = taking taken w.packets }) a p i words u b.changes b.delivery
takes_input w u a p i words b taken lives h after =
    let t = node_changes_as w u b (Some (a, change.Follows h.plan)) h.node after in
    let same = same_node (map.get w.nodes a) t.0 p t.2 lives in
    let follows : Follows p h.plan t.1 = subst (λ (x : PeerState). Follows x h.plan t.1) same t.3 in
    let sends = h.plan.sends.items in
    let packets = packets_as w u b taken h.place after ∙ ap (λ v. taking taken w.packets ++ v) h.packets in
    let step = subst (λ d. DrawnStep p i words t.1 sends h.plan.changes.items d) (sym h.delivery)
    (drawn_step words p t.1 i h.plan h.planned follows) in (
      t.1,
      sends,
      h.plan.changes.items,
      step,
      (λ j. record { params = after.params j; nodes = t.4 j; packets = packets j }),
      h.changes,
    )

fits_input : (w : Net) (a : ℕ) (p : PeerState) (i : Input) (words : List ℕ) (b : Effects) (taken : Option ℕ)
    → LivesAs w a p → AreEffectsOfPlan a taken p i words b → NamedCanChange b.node w.nodes
fits_input w a p i words b taken lives h =
    let drawn = h.planned.2 in
    let fits : IsPlanFor p h.plan = record { input = i; choices = drawn.0; planned = drawn.2 } in
    subst (λ n. NamedCanChange n w.nodes) (sym h.node) (p, lives, fits)

-- an event by which a live node takes an input
pub live_effects : (w : Net) (event : Event) (a : ℕ) (p : PeerState) (i : Input) (words : List ℕ) (b : Effects)
    → LivesAs w a p → AreEffectsOfPlan a None p i words b
    → ((u : Net) → LiveTakesInput w a i words u b.changes b.delivery → Happens w event words u b.changes b.delivery)
    → AreEffects w event words b
live_effects w event a p i words b lives h so = record {
  happens = λ u after. so u (p, lives, takes_input w u a p i words b None lives h after);
  within = subst (λ t. IsWithin t w.packets) (sym h.place) tt;
  fits = fits_input w a p i words b None lives h;
}

pub boot_effects : (w : Net) (a : ℕ) (contact : Option ℕ) (words : List ℕ) (p : PeerState) (b : Effects)
    → map.get w.nodes a ≡ None → p ≡ newborn a w.params → AreEffectsOfBirth a p (input.Boot contact) words b
    → AreEffects w (Boot a contact) words b
boot_effects w a contact words p b new same k =
    let h = subst (λ n. AreEffectsOfBirth a n (input.Boot contact) words b) same k in
    record {
      happens = λ u after.
          let later = node_changes_as w u b (Some (a, change.Born h.next)) h.node after in
          let packets = packets_as w u b None h.place after in
          let all : u ≡ record w {
            nodes = map.insert w.nodes a (Live h.next);
            packets = w.packets ++ b.packets.items;
          } =
          λ j. record { params = after.params j; nodes = later j; packets = packets j } in (
            new,
            each (change_at a) h.view_changes,
            (h.next, b.packets.items, h.view_changes, h.steps, all, refl),
            h.changes,
          );
      within = subst (λ t. IsWithin t w.packets) (sym h.place) tt;
      fits = subst (λ n. NamedCanChange n w.nodes) (sym h.node) tt;
    }

pub deliver_effects : (w : Net) (i : ℕ) (packet : ℕ × Message) (to : ℕ) (message : Message) (p : PeerState)
    (words : List ℕ) (b : Effects) → i < length w.packets → slice_get w.packets i ≡ Some packet → to ≡ packet.0
    → message ≡ packet.1 → map.get w.nodes to ≡ Some (Live p)
    → AreEffectsOfPlan to (Some i) p (input.Receive message) words b → AreEffects w (Deliver i) words b
deliver_effects w i packet to message p words b within there receiver said lives h = record {
  happens = λ u after.
      let v : Net = record w { packets = remove w.packets i } in
      let moves : Received v to message (map.get w.nodes to) words u b.changes b.delivery =
      subst (λ m. Received v to message m words u b.changes b.delivery) (sym lives)
      (takes_input w u to p (input.Receive message) words b (Some i) lives h after) in (
        packet,
        there,
        subst (λ m. Received v packet.0 m (map.get w.nodes packet.0) words u b.changes b.delivery) said
            (subst (λ a. Received v a message (map.get w.nodes a) words u b.changes b.delivery) receiver moves),
      );
  within = subst (λ t. IsWithin t w.packets) (sym h.place) within;
  fits = fits_input w to p (input.Receive message) words b (Some i) lives h;
}

-- no node changes
pub record Rests (b : Effects) (taken : Option ℕ) (packets : List (ℕ × Message)) : Type 0 where
  pub node : b.node ≡ None
  pub place : b.taken ≡ taken
  pub more : b.packets.items ≡ packets
  pub changes : b.changes ≡ []
  pub delivery : b.delivery ≡ None

rested : (w u : Net) (b : Effects) (taken : Option ℕ) (packets : List (ℕ × Message)) → Rests b taken packets
    → IsAfter w b u → u ≡ record w { packets = taking taken w.packets ++ packets }
rested w u b taken packets r after =
    let nodes = node_changes_as w u b None r.node after in
    let all = packets_as w u b taken r.place after ∙ ap (λ v. taking taken w.packets ++ v) r.more in
    λ j. record { params = after.params j; nodes = nodes j; packets = all j }

rests_fits : (w : Net) (b : Effects) (taken : Option ℕ) (packets : List (ℕ × Message)) → Rests b taken packets
    → NamedCanChange b.node w.nodes
rests_fits w b taken packets r = subst (λ n. NamedCanChange n w.nodes) (sym r.node) tt

rests_within : (w : Net) (b : Effects) (taken : Option ℕ) (packets : List (ℕ × Message)) → Rests b taken packets
    → IsWithin taken w.packets → IsWithin b.taken w.packets
rests_within w b taken packets r h = subst (λ t. IsWithin t w.packets) (sym r.place) h

there : {X : Type 0} (xs : List X) (i : ℕ) → i < length xs → (x : X) × slice_get xs i ≡ Some x
there [] i h = absurd (omega arith)
there (x ∷ xs) zero h = (x, refl)
there (x ∷ xs) (suc i) h = there xs i (omega arith)

pub lose_effects : (w : Net) (i : ℕ) (b : Effects) → i < length w.packets → Rests b (Some i) [] → (words : List ℕ)
    → AreEffects w (Lose i) words b
lose_effects w i b within r words = record {
  happens = λ u after.
      let t = there w.packets i within in (
        t.0,
        t.1,
        (
          rested w u b (Some i) [] r after
              ∙ ap (λ v. record w { packets = v }) (append-nil (remove w.packets i)),
          r.changes,
          r.delivery,
        ),
      );
  within = rests_within w b (Some i) [] r within;
  fits = rests_fits w b (Some i) [] r;
}

pub repeat_effects : (w : Net) (i : ℕ) (packet : ℕ × Message) (b : Effects) → slice_get w.packets i ≡ Some packet
    → Rests b None (packet ∷ []) → (words : List ℕ) → AreEffects w (Repeat i) words b
repeat_effects w i packet b at r words = record {
  happens = λ u after. (packet, at, (rested w u b None (packet ∷ []) r after, r.changes, r.delivery));
  within = rests_within w b None (packet ∷ []) r tt;
  fits = rests_fits w b None (packet ∷ []) r;
}

pub snapshot_effects : (w : Net) (b : Effects) → Rests b None [] → (words : List ℕ) → AreEffects w Snapshot words b
snapshot_effects w b r words = record {
  happens = λ u after.
      (rested w u b None [] r after ∙ ap (λ v. record w { packets = v }) (append-nil w.packets), r.changes, r.delivery);
  within = rests_within w b None [] r tt;
  fits = rests_fits w b None [] r;
}

-- a packet whose receiver is not alive
pub vanish_effects : (w : Net) (i : ℕ) (packet : ℕ × Message) (to : ℕ) (m : Option Member) (words : List ℕ)
    (b : Effects) → i < length w.packets → slice_get w.packets i ≡ Some packet → to ≡ packet.0
    → map.get w.nodes to ≡ m → ((p : PeerState) → ¬ (m ≡ Some (Live p))) → Rests b (Some i) []
    → AreEffects w (Deliver i) words b
vanish_effects w i packet to m words b within there receiver is dead r = record {
  happens = λ u after.
      let v : Net = record w { packets = remove w.packets i } in
      let same : u ≡ record w { packets = remove w.packets i } =
      rested w u b (Some i) [] r after ∙ ap (λ x. record w { packets = x }) (append-nil (remove w.packets i)) in
      let got : Received v packet.0 packet.1 m words u b.changes b.delivery = by v u same m dead in (
        packet,
        there,
        subst (λ o. Received v packet.0 packet.1 o words u b.changes b.delivery) (sym is
            ∙ ap (map.get w.nodes) receiver) got,
      );
  within = rests_within w b (Some i) [] r within;
  fits = rests_fits w b (Some i) [] r;
}
  where
    by : (v u : Net) → u ≡ v → (o : Option Member) → ((p : PeerState) → ¬ (o ≡ Some (Live p)))
        → Received v packet.0 packet.1 o words u b.changes b.delivery
    by v u same None d = (same, r.changes, r.delivery)
    by v u same (Some Gone) d = (same, r.changes, r.delivery)
    by v u same (Some (Live p)) d = absurd (d p refl)

lives : (w : Net) (a : ℕ) → IsBorn w a → ¬ IsGone w a → (p : PeerState) × LivesAs w a p
lives w a born live = by (map.get w.nodes a) refl
  where
    by : (o : Option Member) → map.get w.nodes a ≡ o → (p : PeerState) × LivesAs w a p
    by None e = absurd (born e)
    by (Some (Live p)) e = (p, e)
    by (Some Gone) e = absurd (live e)

pub crash_effects : (w : Net) (a : ℕ) (b : Effects) → IsBorn w a → ¬ IsGone w a → b.node ≡ Some (a, change.Crashes)
    → b.taken ≡ None → b.packets.items ≡ [] → b.changes ≡ entry.Gone a ∷ [] → b.delivery ≡ None
    → (words : List ℕ) → AreEffects w (Crash a) words b
crash_effects w a b born live node taken none changes delivery words = record {
  happens = λ u after.
      let p = lives w a born live in
      let nodes = node_changes_as w u b (Some (a, change.Crashes)) node after in
      let packets = packets_as w u b None taken after ∙ ap (λ v. w.packets ++ v) none ∙ append-nil w.packets in
      (p.0, p.1, (λ j. record { params = after.params j; nodes = nodes j; packets = packets j }), changes, delivery);
  within = subst (λ t. IsWithin t w.packets) (sym taken) tt;
  fits = subst (λ n. NamedCanChange n w.nodes) (sym node) tt;
}

module _ {E : Type 0} where
  -- the event is this one
  pub at_event : (w : Net) (event this : Event) (words : List ℕ) (r : Result Effects E) → event ≡ this
      → IfOk r (AreEffects w this words) → IfOk r (AreEffects w event words)
  at_event w event this words r same h = subst (λ e. IfOk r (AreEffects w e words)) (sym same) h

  pub at_any : (w : Net) (event this : Event) (words : List ℕ) (r : Result Effects E) → event ≡ this
      → IfOk r (λ b. (any : List ℕ) → AreEffects w this any b) → IfOk r (AreEffects w event words)
  at_any w event this words r same h = at_event w event this words r same (IfOk-weaker r _ _ (λ b k. k words) h)

remove_few : {X : Type 0} (xs : List X) (i : ℕ) → length (remove xs i) ≤ length xs
remove_few [] zero = omega arith
remove_few [] (suc i) = omega arith
remove_few (x ∷ xs) zero = omega arith
remove_few (x ∷ xs) (suc i) = let r = remove_few xs i in omega (arith, r)

few_after : (w : Net) (b : Effects) → length (packets_after w b) ≤ length w.packets + length b.packets.items
few_after w b = by b.taken
  where
    by : (taken : Option ℕ) → length (taking taken w.packets
        ++ b.packets.items) ≤ length w.packets + length b.packets.items
    by None = omega (arith, length-append w.packets b.packets.items)
    by (Some i) = omega (arith, length-append (remove w.packets i) b.packets.items, remove_few w.packets i)

-- events that are refused unless there is room for the packets of one step
abbrev pub Sends : Event → Type 0
Sends (Boot a contact) = Unit {0}
Sends (Deliver i) = Unit {0}
Sends (Lose i) = ⊥
Sends (Repeat i) = Unit {0}
Sends (Crash a) = ⊥
Sends (CrashReport a crashed) = Unit {0}
Sends (Shuffle a) = Unit {0}
Sends (Broadcast a payload) = Unit {0}
Sends (Timer a id) = Unit {0}
Sends Snapshot = ⊥

last_place : (w : Net) → PlacesLast w None → HasPlaces w
last_place w h = (step_none (HasPlaces w) TooManyPackets Passed h).0

live_next : (w : Net) (a : ℕ) (After : Option NetFault → Type 0) → LiveThen w a After None → After None
live_next w a After h =
    (step_none (¬ IsGone w a) CrashedNode After
    (step_none (IsBorn w a) UnknownNode (HoldsThen (¬ IsGone w a) CrashedNode After) h).1).1

pub contact_next : (w : Net) (contact : Option ℕ) (After : Option NetFault → Type 0) → ContactThen w contact After None
    → After None
contact_next w None After h = h
contact_next w (Some c) After h = live_next w c After h

-- what the judgement of an event that may happen says of it
passes : (w : Net) (entries : ℕ) (event this : Event) → event ≡ this → MayHappen w entries event
    → EventJudged w this None
passes w entries event this same judged =
    (step_none (entries < most_entries w.params) TooManyEntries (EventJudged w this)
    (subst (λ e. MayHappen w entries e) same judged)).1

live_first : (w : Net) (a : ℕ) (After : Option NetFault → Type 0) → LiveThen w a After None
    → IsBorn w a × (¬ IsGone w a)
live_first w a After h =
    let born = step_none (IsBorn w a) UnknownNode (HoldsThen (¬ IsGone w a) CrashedNode After) h in
    (born.0, (step_none (¬ IsGone w a) CrashedNode After born.1).0)

pub may_boot : (w : Net) (entries : ℕ) (event : Event) (a : ℕ) (contact : Option ℕ) → event ≡ Boot a contact
    → MayHappen w entries event → map.get w.nodes a ≡ None
may_boot w entries event a contact same judged =
    (step_none (map.get w.nodes a ≡ None) UsedId (ContactThen w contact (BirthLast w))
    (passes w entries event (Boot a contact) same judged)).0

pub may_deliver : (w : Net) (entries : ℕ) (event : Event) (i : ℕ) → event ≡ Deliver i → MayHappen w entries event
    → i < length w.packets
may_deliver w entries event i same judged =
    (step_none (i < length w.packets) NoSuchPacket (PlacesLast w) (passes w entries event (Deliver i) same judged)).0

pub may_lose : (w : Net) (entries : ℕ) (event : Event) (i : ℕ) → event ≡ Lose i → MayHappen w entries event
    → i < length w.packets
may_lose w entries event i same judged =
    (step_none (i < length w.packets) NoSuchPacket Passed (passes w entries event (Lose i) same judged)).0

pub may_repeat : (w : Net) (entries : ℕ) (event : Event) (i : ℕ) → event ≡ Repeat i → MayHappen w entries event
    → i < length w.packets
may_repeat w entries event i same judged =
    (step_none (i < length w.packets) NoSuchPacket (PlacesLast w) (passes w entries event (Repeat i) same judged)).0

pub may_crash : (w : Net) (entries : ℕ) (event : Event) (a : ℕ) → event ≡ Crash a → MayHappen w entries event
    → IsBorn w a × (¬ IsGone w a)
may_crash w entries event a same judged = live_first w a Passed (passes w entries event (Crash a) same judged)

pub may_report : (w : Net) (entries : ℕ) (event : Event) (a crashed : ℕ) → event ≡ CrashReport a crashed
    → MayHappen w entries event → IsBorn w a × (¬ IsGone w a) × IsGone w crashed
may_report w entries event a crashed same judged =
    let Gone : Option NetFault → Type 0 = HoldsThen (IsGone w crashed) NotCrashed (PlacesLast w) in
    let Known : Option NetFault → Type 0 = HoldsThen (IsBorn w crashed) UnknownNode Gone in
    let all = passes w entries event (CrashReport a crashed) same judged in
    let live = live_first w a Known all in (
      live.0,
      live.1,
      (step_none (IsGone w crashed) NotCrashed (PlacesLast w)
          (step_none (IsBorn w crashed) UnknownNode Gone (live_next w a Known all)).1).0,
    )

pub may_shuffle : (w : Net) (entries : ℕ) (event : Event) (a : ℕ) → event ≡ Shuffle a → MayHappen w entries event
    → IsBorn w a × (¬ IsGone w a)
may_shuffle w entries event a same judged =
    live_first w a (PlacesLast w) (passes w entries event (Shuffle a) same judged)

pub may_broadcast : (w : Net) (entries : ℕ) (event : Event) (a : ℕ) (payload : List ℕ) → event ≡ Broadcast a payload
    → MayHappen w entries event
    → IsBorn w a × (¬ IsGone w a) × (length payload ≤ most_payload) × MayBroadcast w a
may_broadcast w entries event a payload same judged =
    let Made : Option NetFault → Type 0 = HoldsThen (MayBroadcast w a) TooManyMessages (PlacesLast w) in
    let Short : Option NetFault → Type 0 = HoldsThen (length payload ≤ most_payload) PayloadTooLong Made in
    let all = passes w entries event (Broadcast a payload) same judged in
    let live = live_first w a Short all in
    let short = step_none (length payload ≤ most_payload) PayloadTooLong Made (live_next w a Short all) in
    (live.0, live.1, short.0, (step_none (MayBroadcast w a) TooManyMessages (PlacesLast w) short.1).0)

pub may_fire : (w : Net) (entries : ℕ) (event : Event) (a : ℕ) (id : MsgId) → event ≡ Timer a id
    → MayHappen w entries event → IsBorn w a × (¬ IsGone w a) × HasTimer w a id
may_fire w entries event a id same judged =
    let Runs : Option NetFault → Type 0 = HoldsThen (HasTimer w a id) NoTimer (PlacesLast w) in
    let all = passes w entries event (Timer a id) same judged in
    let live = live_first w a Runs all in
    (live.0, live.1, (step_none (HasTimer w a id) NoTimer (PlacesLast w) (live_next w a Runs all)).0)

places_of : (w : Net) (event : Event) → Sends event → EventJudged w event None → HasPlaces w
places_of w (Boot a contact) sends h =
    let first = (step_none (map.get w.nodes a ≡ None) UsedId (ContactThen w contact (BirthLast w)) h).1 in
    last_place w (step_none (map.len w.nodes < most_world_nodes w.params) TooManyNodes (PlacesLast w)
    (contact_next w contact (BirthLast w) first)).1
places_of w (Deliver i) sends h = last_place w (step_none (i < length w.packets) NoSuchPacket (PlacesLast w) h).1
places_of w (Lose i) sends h = absurd sends
places_of w (Repeat i) sends h = last_place w (step_none (i < length w.packets) NoSuchPacket (PlacesLast w) h).1
places_of w (Crash a) sends h = absurd sends
places_of w (CrashReport a crashed) sends h =
    let gone : Option NetFault → Type 0 = HoldsThen (IsGone w crashed) NotCrashed (PlacesLast w) in
    let known = live_next w a (HoldsThen (IsBorn w crashed) UnknownNode gone) h in
    last_place w (step_none (IsGone w crashed) NotCrashed (PlacesLast w)
    (step_none (IsBorn w crashed) UnknownNode gone known).1).1
places_of w (Shuffle a) sends h = last_place w (live_next w a (PlacesLast w) h)
places_of w (Broadcast a payload) sends h =
    let made : Option NetFault → Type 0 = HoldsThen (MayBroadcast w a) TooManyMessages (PlacesLast w) in
    let short = live_next w a (HoldsThen (length payload ≤ most_payload) PayloadTooLong made) h in
    last_place w (step_none (MayBroadcast w a) TooManyMessages (PlacesLast w)
    (step_none (length payload ≤ most_payload) PayloadTooLong made short).1).1
places_of w (Timer a id) sends h =
    last_place w (step_none (HasTimer w a id) NoTimer (PlacesLast w)
    (live_next w a (HoldsThen (HasTimer w a id) NoTimer (PlacesLast w)) h)).1
places_of w Snapshot sends h = absurd sends

pub few_sent : (w : Net) (entries : ℕ) (event this : Event) (b : Effects) → event ≡ this → Sends this
    → MayHappen w entries event → SendFew b → HaveRoom w b
few_sent w entries event this b same sends judged few =
    let all : MayHappen w entries this = subst (λ e. MayHappen w entries e) same judged in
    let places =
    places_of w this sends (step_none (entries < most_entries w.params) TooManyEntries (EventJudged w this) all).1 in
    omega (arith, few_after w b, places, few)

pub none_sent : (w : Net) (b : Effects) → b.packets.items ≡ [] → length w.packets ≤ most_packets w.params → HaveRoom w b
none_sent w b none few = let n : length b.packets.items ≡ 0 = ap length none in omega (arith, few_after w b, n, few)
