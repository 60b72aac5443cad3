-- A sender is told that the receiver of its packet crashed.
use Rattle.std.proofs.Common.{◌≡◌, ◌<◌, ℕ, true, List, get_or, refl, length, Option, Some, None, sym, subst, inl, inr}
use Rattle.std.specs.Prelude.{MatchBool, slice_get}
use Rattle.std.proofs.lemmas.Option.{slice_get_read}
use Rattle.ov_wire.specs.declared.message.Message.{Message}
use Rattle.ov_script.specs.declared.recordable_event.Act.TheVariants as act
use Rattle.ov_grow.specs.Growth.{Growth, Does}
use Rattle.ov_grow.specs.Turns.{IsDelivered, SenderIsTold}
use Rattle.ov_grow.specs.Code.Standing.{Fails, IsTold}
use Rattle.ov_grow.specs.declared.phase_rules.PhaseRules.{PhaseRules}
use Rattle.ov_grow.proofs.Turning.{was_there}

-- the sender of a packet that was delivered is told of what failed
sender_told : (s t u : Growth) (place : ℕ) (failed : Option (ℕ × ℕ)) → Fails s place failed → IsTold failed t u
    → SenderIsTold s place t u
sender_told s t u place (Some (sender, receiver)) (packet, at, fails, from, to) told = (
  packet,
  at,
  inl (
    fails,
    subst (λ a. Does t (act.CrashReport a packet.0) u) from
        (subst (λ a. Does t (act.CrashReport sender a) u) to told),
  ),
)
sender_told s t u place None (packet, at, fine) told = (packet, at, inr (fine, told))

-- a packet that was delivered was on its way
pub delivered_and_told : (rules : PhaseRules) (place : ℕ) (s t u : Growth) (failed : Option (ℕ × ℕ))
    → rules.tells_crashes ≡ true
    → (place < length s.world.net.packets → Fails s place failed)
    → Does s (act.Deliver place) t → IsTold failed t u → IsDelivered rules place s u
delivered_and_told rules place s t u failed holds fails did told = (
  t,
  did,
  subst (λ l. MatchBool l (SenderIsTold s place t u) (u ≡ t)) (sym holds)
      (sender_told s t u place failed (fails (was_there s t place did)) told),
)

-- the packet that is read at a place
pub packet_at : (read packets : List (ℕ × Message)) (place : ℕ) (packet : ℕ × Message) → read ≡ packets
    → place < length packets → packet ≡ get_or read place packet → slice_get packets place ≡ Some packet
packet_at read packets place packet same within is =
    slice_get_read packets (length packets) place packet refl within
    (subst (λ xs. packet ≡ get_or xs place packet) same is)
