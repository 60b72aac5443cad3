-- Turns of packets: what becomes of each packet that is on its way. s is before, and u after. Chosen here.
use Rattle.std.specs.Prelude.{◌≡◌, ◌⊎◌, ℕ, zero, suc, Bool, MatchBool, [], length, slice_get, Some}
use Rattle.ov_grow_options.specs.declared.options.Order.{Order}
use Rattle.ov_grow_options.specs.declared.options.Order.TheVariants.{Random, Oldest}
use Rattle.ov_wire.specs.declared.message.Message.{Message}
use Rattle.ov_net.specs.Net.{IsGone}
use Rattle.ov_script.specs.declared.recordable_event.Act.TheVariants as act
use Rattle.ov_grow.specs.Growth.{Growth, Does, Chooses, Tries, IsLive}
use Rattle.ov_grow.specs.declared.phase_rules.PhaseRules.{PhaseRules}

-- the packet whose turn it is: its place, counted from 0
abbrev pub IsTurnOf : Order → Growth → ℕ → Growth → Type 0
IsTurnOf Random s place u = Chooses (length s.world.net.packets) s place u
IsTurnOf Oldest s place u = (place ≡ 0) × (u ≡ s)

-- a connection fails: the receiver of the packet has crashed, and its sender lives
abbrev pub HasFailed : Growth → ℕ × Message → Type 0
HasFailed s packet = IsGone s.world.net packet.0 × IsLive s packet.1.from

-- the packet at this place had its turn when growing stood at `before`. If its connection failed, its sender gets the
-- crash report of its receiver
abbrev pub SenderIsTold : Growth → ℕ → Growth → Growth → Type 0
SenderIsTold before place s u =
    (packet : ℕ × Message) × (slice_get before.world.net.packets place ≡ Some packet)
    × ((HasFailed before packet × Does s (act.CrashReport packet.1.from packet.0) u)
    ⊎ ((¬ HasFailed before packet) × (u ≡ s)))

-- the packet is delivered, and its sender may be told that this failed
abbrev pub IsDelivered : PhaseRules → ℕ → Growth → Growth → Type 0
IsDelivered rules place s u =
    (t : Growth) × Does s (act.Deliver place) t × MatchBool rules.tells_crashes (SenderIsTold s place t u) (u ≡ t)

-- with the chance of a repetition the packet is repeated
abbrev pub MayBeRepeated : PhaseRules → ℕ → Growth → Growth → Type 0
MayBeRepeated rules place s u =
    (again : Bool) × (t : Growth) × Tries rules.repeat s again t × MatchBool again (Does t (act.Repeat place) u) (u ≡ t)

-- a packet that is not lost: it may be repeated first, and then it is delivered
abbrev pub Arrives : PhaseRules → ℕ → Growth → Growth → Type 0
Arrives rules place s u = (t : Growth) × MayBeRepeated rules place s t × IsDelivered rules place t u

-- a turn of a packet: with the chance of loss it is lost
abbrev pub Turn : PhaseRules → Growth → Growth → Type 0
Turn rules s u =
    (place : ℕ) × (lost : Bool) × (t : Growth) × (v : Growth)
    × IsTurnOf rules.order s place t
    × Tries rules.loss t lost v
    × MatchBool lost (Does v (act.Lose place) u) (Arrives rules place v u)

-- no packet is on its way
abbrev pub HasNoPackets : Growth → Type 0
HasNoPackets s = s.world.net.packets ≡ []

-- so many turns, or fewer if no packet is left
abbrev pub TurnsUpTo : PhaseRules → ℕ → Growth → Growth → Type 0
TurnsUpTo rules zero s u = u ≡ s
TurnsUpTo rules (suc n) s u =
    (HasNoPackets s × (u ≡ s))
    ⊎ ((¬ HasNoPackets s) × (t : Growth) × Turn rules s t × TurnsUpTo rules n t u)

-- packets run out: there are turns until no packet is on its way
abbrev pub RunOut : PhaseRules → Growth → Growth → Type 0
RunOut rules s u = (n : ℕ) × TurnsUpTo rules n s u × HasNoPackets u
