-- Why growing can't go on: an act is refused, or a part of a way leads nowhere.
use Rattle.std.proofs.Common.{◌≡◌, ◌<◌, ℕ, Bool, true, false, length, Option, Some}
use Rattle.std.proofs.Common.{None, refl, sym, subst, ◌∙◌, inl, inr, ◌⊎◌}
use Rattle.std.specs.Prelude.{MatchBool}
use Rattle.std.proofs.lemmas.Option.{same_Some}
use Rattle.rand_pcg.specs.Lcg.{Lcg}
use Rattle.ov_wire.specs.declared.message.Message.{Message}
use Rattle.ov_net.specs.Refusals.{IsRefusal}
use Rattle.ov_net.specs.declared.fault.NetFault.{NetFault}
use Rattle.ov_net.specs.declared.fault.NetFault.TheVariants as net_fault
use Rattle.ov_net.proofs.Steps.Refusing.{refused_for_memory}
use Rattle.ov_script.specs.Acts.{event_of}
use Rattle.ov_script.specs.declared.recordable_event.Act.{Act}
use Rattle.ov_script.specs.declared.recordable_event.Act.TheVariants as act
use Rattle.ov_grow.specs.Choices.{after_chance, comes_true}
use Rattle.ov_grow.specs.Faults.{of_event}
use Rattle.ov_grow.specs.Growth.{Growth, Does}
use Rattle.ov_grow.specs.Turns.{Arrives, HasFailed, IsDelivered, IsTurnOf, MayBeRepeated, SenderIsTold, Turn}
use Rattle.ov_grow.specs.Code.Standing.{Fails, Goes, IsNoWay, IsTold, growth_of}
use Rattle.ov_grow.specs.declared.fault.GrowFault.{GrowFault}
use Rattle.ov_grow.specs.declared.fault.GrowFault.TheVariants.{OutOfMemory}
use Rattle.ov_grow.specs.declared.growth_in_progress.Growing.{Growing}
use Rattle.ov_grow.specs.declared.phase_rules.PhaseRules.{PhaseRules}
use Rattle.ov_grow.proofs.Going.{no_way_by, tried}
use Rattle.ov_grow.proofs.OneGrowth.{delivery_rest, repetition_rest, turn_rest}
use Rattle.ov_grow.proofs.Turning.{was_there}

-- a refusal of the world is for memory, or another one
memory_or_not : (f : NetFault) → (of_event f ≡ OutOfMemory) ⊎ (¬ (f ≡ net_fault.OutOfMemory))
memory_or_not net_fault.OutOfMemory = inl refl
memory_or_not f = inr (λ same. absurd cc)

-- what the world refuses is not done
pub act_refused : (b : Growing) (what : Act) (f : NetFault) (fault : GrowFault) → fault ≡ of_event f
    → IsRefusal b.recording.core.world.net (length b.recording.core.world.journal) (event_of what) f
    → IsNoWay (λ s u. Does s what u) b fault
act_refused b what f fault is refused =
    elim (memory_or_not f) [
      | inl memory ↦ inl (is ∙ memory)
      | inr other ↦ inr (λ u did. other (refused_for_memory b.recording.core.world.net
          (length b.recording.core.world.journal) (event_of what) f did.judged refused))
    ]

-- a choice of two ways was made
first_way : (b : Bool) (P Q : Type 0) → b ≡ true → MatchBool b P Q → P
first_way true P Q holds way = way
first_way false P Q holds way = absurd cc

second_way : (b : Bool) (P Q : Type 0) → b ≡ false → MatchBool b P Q → Q
second_way true P Q fails way = absurd cc
second_way false P Q fails way = way

-- a packet whose turn it is can't be lost
pub no_way_lost : (rules : PhaseRules) (place n : ℕ) (lost : Bool) (b t : Growing) (left : Lcg) (fault : GrowFault)
    → Goes (λ s w. IsTurnOf rules.order s place w) b t
    → n ≡ rules.loss → lost ≡ comes_true n t.choices → left ≡ after_chance n t.choices → lost ≡ true
    → IsNoWay (λ s w. Does s (act.Lose place) w) (record t { choices = left }) fault → IsNoWay (Turn rules) b fault
no_way_lost rules place n lost b t left fault whose same value rest holds none =
    let v : Growing = record t { choices = left } in
    no_way_by (λ s w. Does s (act.Lose place) w) (Turn rules) v b fault
    (λ u turn. (
      u,
      first_way lost (Does (growth_of v) (act.Lose place) u) (Arrives rules place (growth_of v) u) holds
          (turn_rest rules place lost (growth_of b) (growth_of t) (growth_of v) u whose.way
          (tried t rules.loss n lost left same value rest).way turn),
    )) none

-- a packet whose turn it is, and that is not lost, can't arrive
pub no_way_arrives : (rules : PhaseRules) (place n : ℕ) (lost : Bool) (b t : Growing) (left : Lcg) (fault : GrowFault)
    → Goes (λ s w. IsTurnOf rules.order s place w) b t
    → n ≡ rules.loss → lost ≡ comes_true n t.choices → left ≡ after_chance n t.choices → lost ≡ false
    → IsNoWay (Arrives rules place) (record t { choices = left }) fault → IsNoWay (Turn rules) b fault
no_way_arrives rules place n lost b t left fault whose same value rest fails none =
    let v : Growing = record t { choices = left } in
    no_way_by (Arrives rules place) (Turn rules) v b fault
    (λ u turn. (
      u,
      second_way lost (Does (growth_of v) (act.Lose place) u) (Arrives rules place (growth_of v) u) fails
          (turn_rest rules place lost (growth_of b) (growth_of t) (growth_of v) u whose.way
          (tried t rules.loss n lost left same value rest).way turn),
    )) none

-- a packet can't be repeated
pub no_way_repeated : (rules : PhaseRules) (place n : ℕ) (again : Bool) (b : Growing) (left : Lcg) (fault : GrowFault)
    → n ≡ rules.repeat → again ≡ comes_true n b.choices → left ≡ after_chance n b.choices → again ≡ true
    → IsNoWay (λ s w. Does s (act.Repeat place) w) (record b { choices = left }) fault
    → IsNoWay (MayBeRepeated rules place) b fault
no_way_repeated rules place n again b left fault same value rest holds none =
    let v : Growing = record b { choices = left } in
    no_way_by (λ s w. Does s (act.Repeat place) w) (MayBeRepeated rules place) v b fault
    (λ u may. (
      u,
      first_way again (Does (growth_of v) (act.Repeat place) u) (u ≡ growth_of v) holds
          (repetition_rest rules place again (growth_of b) (growth_of v) u
          (tried b rules.repeat n again left same value rest).way may),
    )) none

-- a packet can't be delivered
pub no_way_delivered : (rules : PhaseRules) (place : ℕ) (b : Growing) (fault : GrowFault)
    → IsNoWay (λ s u. Does s (act.Deliver place) u) b fault → IsNoWay (IsDelivered rules place) b fault
no_way_delivered rules place b fault none =
    no_way_by (λ s u. Does s (act.Deliver place) u) (IsDelivered rules place) b b fault
    (λ u (t, did, told). (t, did)) none

-- the sender of a packet that was delivered is told of what failed
told_of : (s t u : Growth) (place : ℕ) (failed : Option (ℕ × ℕ)) → Fails s place failed → SenderIsTold s place t u
    → IsTold failed t u
told_of s t u place (Some (sender, receiver)) (packet, at, fails, from, to) (other, there, inl (failed, did)) =
    let same : other ≡ packet = same_Some other packet (sym there ∙ at) in
    subst (λ a. Does t (act.CrashReport a receiver) u) (sym from)
    (subst (λ a. Does t (act.CrashReport packet.1.from a) u) (sym to)
    (subst (λ (p : ℕ × Message). Does t (act.CrashReport p.1.from p.0) u) same did))
told_of s t u place (Some (sender, receiver)) (packet, at, fails, from, to) (other, there, inr (fine, same)) =
    absurd (fine (subst (λ p. HasFailed s p) (sym (same_Some other packet (sym there ∙ at))) fails))
told_of s t u place None (packet, at, fine) (other, there, inl (failed, did)) =
    absurd (fine (subst (λ p. HasFailed s p) (same_Some other packet (sym there ∙ at)) failed))
told_of s t u place None (packet, at, fine) (other, there, inr (works, same)) = same

-- a packet is delivered, and its sender can't be told
pub no_way_told : (rules : PhaseRules) (place : ℕ) (failed : Option (ℕ × ℕ)) (b t : Growing) (fault : GrowFault)
    → rules.tells_crashes ≡ true
    → (place < length b.recording.core.world.net.packets → Fails (growth_of b) place failed)
    → Goes (λ s u. Does s (act.Deliver place) u) b t → IsNoWay (IsTold failed) t fault
    → IsNoWay (IsDelivered rules place) b fault
no_way_told rules place failed b t fault holds fails did none =
    no_way_by (IsTold failed) (IsDelivered rules place) t b fault
    (λ u delivered. (
      u,
      told_of (growth_of b) (growth_of t) u place failed
          (fails (was_there (growth_of b) (growth_of t) place did.way))
          (first_way rules.tells_crashes (SenderIsTold (growth_of b) place (growth_of t) u) (u ≡ growth_of t) holds
          (delivery_rest rules place (growth_of b) (growth_of t) u did.way delivered)),
    )) none
