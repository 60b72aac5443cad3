-- Turns of packets.
use Rattle.std.proofs.Common.{◌≡◌, ◌<◌, ◌≤◌, ◌+◌, ℕ, zero, suc, Bool, true, false, List, [], ◌∷◌, length}
use Rattle.std.proofs.Common.{Some, refl, sym, ap, subst, ◌∙◌, inl, inr, ◌⊎◌, arith, length-append}
use Rattle.std.specs.Prelude.{MatchBool, slice_get}
use Rattle.std.proofs.lemmas.Option.{none-some, slice_get_cases}
use Rattle.ov_ids.proofs.Scales.{entries_within}
use Rattle.ov_ids.proofs.Stepping.{step_none}
use Rattle.ov_net.specs.Limits.{longest_of_any, most_entries}
use Rattle.ov_net.specs.Refusals.{EventJudged}
use Rattle.ov_net.specs.declared.fault.NetFault.TheVariants.{TooManyEntries}
use Rattle.ov_script.specs.Acts.{event_of}
use Rattle.ov_script.specs.declared.recordable_event.Act.{Act}
use Rattle.ov_script.specs.declared.recordable_event.Act.TheVariants as act
use Rattle.ov_grow_options.specs.declared.options.Order.{Order}
use Rattle.ov_grow_options.specs.declared.options.Order.TheVariants.{Random, Oldest}
use Rattle.ov_grow.specs.Growth.{Growth, Does, Tries}
use Rattle.ov_grow.specs.Turns.{Arrives, HasNoPackets, IsDelivered, IsTurnOf, MayBeRepeated, RunOut}
use Rattle.ov_grow.specs.Turns.{SenderIsTold, Turn, TurnsUpTo}
use Rattle.ov_grow.specs.declared.phase_rules.PhaseRules.{PhaseRules}

-- how many entries the journal has
abbrev pub entries : Growth → ℕ
entries s = length s.world.journal

-- the journal is longer, and not longer than any may be
pub record Longer (s u : Growth) : Type 0 where
  pub more : entries s < entries u
  pub most : entries u ≤ longest_of_any

-- it has the same length or is longer
abbrev pub AsLong : Growth → Growth → Type 0
AsLong s u = (u ≡ s) ⊎ Longer s u

longer_trans : (s t u : Growth) → Longer s t → Longer t u → Longer s u
longer_trans s t u a b = record { more = omega (arith, a.more, b.more); most = b.most }

pub longer_by : (s t u : Growth) → Longer s t → AsLong t u → Longer s u
longer_by s t u a (inl same) = subst (λ x. Longer s x) (sym same) a
longer_by s t u a (inr b) = longer_trans s t u a b

pub as_long_by : (s t u : Growth) → AsLong s t → AsLong t u → AsLong s u
as_long_by s t u (inl same) b = subst (λ x. AsLong x u) same b
as_long_by s t u (inr a) b = inr (longer_by s t u a b)

pub does_longer : (s u : Growth) (what : Act) → Does s what u → Longer s u
does_longer s u what d =
    let params = s.world.net.params in
    let room =
    step_none (entries s < most_entries params) TooManyEntries (EventJudged s.world.net (event_of what)) d.judged in
    let more : entries u ≡ entries s + 1 =
    ap length d.step.journal ∙ length-append s.world.journal (d.entry ∷ []) in
    record { more = omega (arith, more); most = omega (arith, more, room.0, (entries_within params.scale).1) }

-- only choices were drawn, so the journal is the same
pub longer_from : (s t u : Growth) → t.world ≡ s.world → Longer t u → Longer s u
longer_from s t u same a = record { more = subst (λ w. length w.journal < entries u) same a.more; most = a.most }

pub told_as_long : (b s u : Growth) (place : ℕ) → SenderIsTold b place s u → AsLong s u
told_as_long b s u place (packet, at, inl (failed, did)) =
    inr (does_longer s u (act.CrashReport packet.1.from packet.0) did)
told_as_long b s u place (packet, at, inr (fine, same)) = inl same

told_or_not : (b s u : Growth) (place : ℕ) (tells : Bool) → MatchBool tells (SenderIsTold b place s u) (u ≡ s)
    → AsLong s u
told_or_not b s u place true told = told_as_long b s u place told
told_or_not b s u place false same = inl same

delivered_longer : (rules : PhaseRules) (place : ℕ) (s u : Growth) → IsDelivered rules place s u → Longer s u
delivered_longer rules place s u (t, did, told) =
    longer_by s t u (does_longer s t (act.Deliver place) did) (told_or_not s t u place rules.tells_crashes told)

repeated_longer : (rules : PhaseRules) (place : ℕ) (s u w : Growth) → MayBeRepeated rules place s u → Longer u w
    → Longer s w
repeated_longer rules place s u w (true, t, tries, did) more =
    longer_from s t w (ap (λ g. g.world) tries.1) (longer_trans t u w (does_longer t u (act.Repeat place) did) more)
repeated_longer rules place s u w (false, t, tries, same) more =
    longer_from s t w (ap (λ g. g.world) tries.1) (subst (λ g. Longer g w) same more)

lost_or_not : (rules : PhaseRules) (place : ℕ) (s u : Growth) (lost : Bool)
    → MatchBool lost (Does s (act.Lose place) u) (Arrives rules place s u) → Longer s u
lost_or_not rules place s u true did = does_longer s u (act.Lose place) did
lost_or_not rules place s u false (t, again, arrived) =
    repeated_longer rules place s t u again (delivered_longer rules place t u arrived)

-- whose turn it is draws only choices
pub whose_same : (order : Order) (place : ℕ) (s t : Growth) → IsTurnOf order s place t → t.world ≡ s.world
whose_same Random place s t whose = ap (λ g. g.world) whose.1
whose_same Oldest place s t whose = ap (λ g. g.world) whose.1

pub turn_longer : (rules : PhaseRules) (s u : Growth) → Turn rules s u → Longer s u
turn_longer rules s u (place, lost, t, v, whose, tries, rest) =
    longer_from s v u (ap (λ g. g.world) tries.1 ∙ whose_same rules.order place s t whose) (lost_or_not rules place
    v u lost rest)

pub turns_as_long : (rules : PhaseRules) (n : ℕ) (s u : Growth) → TurnsUpTo rules n s u → AsLong s u
turns_as_long rules zero s u same = inl same
turns_as_long rules (suc n) s u (inl none) = inl none.1
turns_as_long rules (suc n) s u (inr (some, t, turn, more)) =
    inr (longer_by s t u (turn_longer rules s t turn) (turns_as_long rules n t u more))

pub run_out_as_long : (rules : PhaseRules) (s u : Growth) → RunOut rules s u → AsLong s u
run_out_as_long rules s u (n, turns, none) = turns_as_long rules n s u turns

-- a packet is lost in its turn
pub turn_lost : (rules : PhaseRules) (place : ℕ) (lost : Bool) (s t v u : Growth) → lost ≡ true
    → IsTurnOf rules.order s place t → Tries rules.loss t lost v → Does v (act.Lose place) u → Turn rules s u
turn_lost rules place lost s t v u holds whose tries did = (
  place,
  lost,
  t,
  v,
  whose,
  tries,
  subst (λ l. MatchBool l (Does v (act.Lose place) u) (Arrives rules place v u)) (sym holds) did,
)

-- a packet is not lost in its turn
pub turn_arrives : (rules : PhaseRules) (place : ℕ) (lost : Bool) (s t v u : Growth) → lost ≡ false
    → IsTurnOf rules.order s place t → Tries rules.loss t lost v → Arrives rules place v u → Turn rules s u
turn_arrives rules place lost s t v u fails whose tries arrives = (
  place,
  lost,
  t,
  v,
  whose,
  tries,
  subst (λ l. MatchBool l (Does v (act.Lose place) u) (Arrives rules place v u)) (sym fails) arrives,
)

-- a packet is repeated
pub repeated : (rules : PhaseRules) (place : ℕ) (again : Bool) (s t u : Growth) → again ≡ true
    → Tries rules.repeat s again t → Does t (act.Repeat place) u → MayBeRepeated rules place s u
repeated rules place again s t u holds tries did =
    (again, t, tries, subst (λ l. MatchBool l (Does t (act.Repeat place) u) (u ≡ t)) (sym holds) did)

-- a packet is not repeated
pub not_repeated : (rules : PhaseRules) (place : ℕ) (again : Bool) (s t : Growth) → again ≡ false
    → Tries rules.repeat s again t → MayBeRepeated rules place s t
not_repeated rules place again s t fails tries =
    (again, t, tries, subst (λ l. MatchBool l (Does t (act.Repeat place) t) (t ≡ t)) (sym fails) refl)

-- a packet is delivered, and nobody is told
pub delivered : (rules : PhaseRules) (place : ℕ) (s u : Growth) → rules.tells_crashes ≡ false
    → Does s (act.Deliver place) u → IsDelivered rules place s u
delivered rules place s u fails did =
    (u, did, subst (λ l. MatchBool l (SenderIsTold s place u u) (u ≡ u)) (sym fails) refl)

-- an item of a list is within it
slice_get_within : {X : Type 0} (xs : List X) (i : ℕ) (x : X) → slice_get xs i ≡ Some x → i < length xs
slice_get_within xs i x there =
    elim (slice_get_cases xs i).1
    [ inl found ↦ found.1 | inr past ↦ absurd (none-some x (sym past.1 ∙ there)) ]

-- a packet that was delivered was on its way
pub was_there : (s t : Growth) (place : ℕ) → Does s (act.Deliver place) t → place < length s.world.net.packets
was_there s t place did =
    let there = did.step.step.2 in slice_get_within s.world.net.packets place there.0 there.1

-- one turn more
pub run_out_more : (rules : PhaseRules) (s t u : Growth) → ¬ HasNoPackets s → Turn rules s t → RunOut rules t u
    → RunOut rules s u
run_out_more rules s t u some turn (n, turns, none) = (suc n, inr (some, t, turn, turns), none)

pub run_out_none : (rules : PhaseRules) (s : Growth) → HasNoPackets s → RunOut rules s s
run_out_none rules s none = (0, refl, none)

pub turns_more : (rules : PhaseRules) (n m : ℕ) (s t u : Growth) → n ≡ suc m → ¬ HasNoPackets s → Turn rules s t
    → TurnsUpTo rules m t u → TurnsUpTo rules n s u
turns_more rules n m s t u one some turn turns =
    subst (λ k. TurnsUpTo rules k s u) (sym one) (inr (some, t, turn, turns))

pub turns_none : (rules : PhaseRules) (n m : ℕ) (s : Growth) → n ≡ suc m → HasNoPackets s → TurnsUpTo rules n s s
turns_none rules n m s one none = subst (λ k. TurnsUpTo rules k s s) (sym one) (inl (none, refl))

pub turns_end : (rules : PhaseRules) (n : ℕ) (s : Growth) → n ≡ 0 → TurnsUpTo rules n s s
turns_end rules n s none = subst (λ k. TurnsUpTo rules k s s) (sym none) refl

-- a list with items has some
pub some_left : (n : ℕ) (s : Growth) → n ≡ length s.world.net.packets → 0 < n → ¬ HasNoPackets s
some_left n s count some none =
    let empty : n ≡ 0 = count ∙ ap length none in omega (arith, empty, some)

pub none_left : {X : Type 0} (xs : List X) → length xs ≡ 0 → xs ≡ []
none_left [] none = refl
none_left (x ∷ xs) none = absurd (omega (arith, none))
