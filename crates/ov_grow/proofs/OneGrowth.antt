-- The options alone decide what is grown.
use Rattle.std.proofs.Common.{◌≡◌, ℕ, zero, suc, Bool, true, false, List, [], ◌∷◌, ◌++◌, length, Some}
use Rattle.std.proofs.Common.{refl, sym, ap, ap₂, subst, ◌∙◌, inl, inr, ◌⊎◌}
use Rattle.std.specs.Prelude.{MatchBool, option_map, slice_get}
use Rattle.std.specs.Prelude.{remove}
use Rattle.std.proofs.lemmas.Option.{same_Some, none-some}
use Rattle.ov_wire.specs.declared.message.Message.{Message}
use Rattle.ov_net.specs.Theorems.{WorldStep}
use Rattle.ov_net.specs.World.{WorldState}
use Rattle.ov_net.specs.declared.event.Event.{Event}
use Rattle.rand_pcg.specs.Lcg.{Lcg}
use Rattle.ov_ids.proofs.Members.{same_ascending}
use Rattle.ov_net.proofs.OneStep.OfWorld.{one_step}
use Rattle.ov_scenario.proofs.Scenarios.OneScenario.{one_scenario}
use Rattle.ov_scenario.specs.declared.scenario.Line.{Line}
use Rattle.ov_scenario.specs.declared.scenario.Line.TheVariants as line
use Rattle.ov_script.specs.Acts.{event_of}
use Rattle.ov_grow.specs.BroadcastLog.{marks_after}
use Rattle.ov_script.specs.declared.recordable_event.Act.{Act}
use Rattle.ov_script.specs.declared.recordable_event.Act.TheVariants as act
use Rattle.ov_grow.specs.Choices.{IsRandomOrder, one_of, later}
use Rattle.ov_grow.specs.Growth.{Growth, AsksLast, AreLive, Chooses, Does, Tries, Writes}
use Rattle.ov_grow.specs.Turns.{Arrives, HasFailed, HasNoPackets, IsDelivered, IsTurnOf, MayBeRepeated, RunOut}
use Rattle.ov_grow.specs.Turns.{SenderIsTold, Turn, TurnsUpTo}
use Rattle.ov_grow.specs.declared.phase_rules.PhaseRules.{PhaseRules}
use Rattle.ov_grow_options.specs.declared.options.Order.{Order}
use Rattle.ov_grow_options.specs.declared.options.Order.TheVariants.{Random, Oldest}

-- the item after these
last_of : {X : Type 0} → X → List X → X
last_of x [] = x
last_of x (y ∷ ys) = last_of y ys

last_is : {X : Type 0} (d : X) (xs : List X) (x : X) → last_of d (xs ++ x ∷ []) ≡ x
unfolding last_of
last_is d [] x = refl
last_is d (y ∷ ys) x = last_is y ys x

-- two lists with equal last items
same_last : {X : Type 0} (xs ys : List X) (x y : X) → xs ++ x ∷ [] ≡ ys ++ y ∷ [] → x ≡ y
same_last xs ys x y same = sym (last_is x xs x) ∙ (ap (last_of x) same ∙ last_is x ys y)

-- a text asks for one last line
pub one_last : (text : List ℕ) (a b : Line) → AsksLast text a → AsksLast text b → a ≡ b
one_last text a b (scenario, earlier, says, is) (other, before, also, equally) =
    same_last earlier before a b (sym is ∙ ((one_scenario text scenario other says also).2 ∙ equally))

-- two lines that are one event have the same words
same_words : (what : Event) (words also : List ℕ) → line.Event what words ≡ line.Event what also → words ≡ also
same_words what words also same = cc

pub same_growth : (s u v : Growth) → u.text ≡ v.text → u.world ≡ v.world → u.choices ≡ v.choices → u.log ≡ v.log → u ≡ v
same_growth s u v text world choices log =
    λ i. record { text = text i; world = world i; choices = choices i; log = log i }

-- an act has one outcome
pub one_act : (s u v : Growth) (what : Act) → Does s what u → Does s what v → u ≡ v
one_act s u v what d e =
    let text : u.text ≡ v.text = d.text ∙ sym e.text in
    let words : d.words ≡ e.words = same_words (event_of what) d.words e.words
    (one_last v.text (line.Event (event_of what) d.words) (line.Event (event_of what) e.words)
    (subst (λ t. AsksLast t (line.Event (event_of what) d.words)) text d.asked) e.asked) in
    let step : WorldStep s.world (event_of what) e.words u.world d.entry =
    subst (λ w. WorldStep s.world (event_of what) w u.world d.entry) words d.step in
    let world : u.world ≡ v.world = (one_step s.world (event_of what) e.words u.world v.world d.entry e.entry step
    e.step).0 in
    same_growth s u v text world (d.choices ∙ sym e.choices)
    (d.log ∙ (ap (λ (w : WorldState). option_map (marks_after (event_of what) s.world.net w.net) s.log) world
    ∙ sym e.log))

pub one_write : (s u v : Growth) (written : List ℕ) → Writes s written u → Writes s written v → u ≡ v
one_write s u v written a b = a ∙ sym b

pub one_choice : (n place also : ℕ) (s u v : Growth) → Chooses n s place u → Chooses n s also v
    → (place ≡ also) × (u ≡ v)
one_choice n place also s u v a b = (a.0 ∙ sym b.0, a.1 ∙ sym b.1)

pub one_try : (p : ℕ) (comes also : Bool) (s u v : Growth) → Tries p s comes u → Tries p s also v
    → (comes ≡ also) × (u ≡ v)
one_try p comes also s u v a b = (a.0 ∙ sym b.0, a.1 ∙ sym b.1)

pub one_live : (s : Growth) (xs ys : List ℕ) → AreLive s xs → AreLive s ys → xs ≡ ys
one_live s xs ys a b =
    same_ascending xs ys a.ascend b.ascend (λ x has. b.each x (a.live x has)) (λ x has. a.each x (b.live x has))

-- nothing is in the empty list
none_at : (ids : List ℕ) (n x : ℕ) → ids ≡ [] → slice_get ids n ≡ Some x → ⊥
none_at ids n x none there = none-some x (subst (λ xs. slice_get xs n ≡ Some x) none there)

-- a random order is one
pub one_order : (ids order also : List ℕ) (before after left : Lcg) → IsRandomOrder ids order before after
    → IsRandomOrder ids also before left → (order ≡ also) × (after ≡ left)
one_order ids [] [] before after left a b = (refl, a.1 ∙ sym b.1)
one_order ids [] (y ∷ also) before after left a b = absurd (none_at ids (one_of (length ids) before) y a.0 b.0)
one_order ids (x ∷ order) [] before after left a b = absurd (none_at ids (one_of (length ids) before) x b.0 a.0)
one_order ids (x ∷ order) (y ∷ also) before after left a b =
    let first : x ≡ y = same_Some x y (sym a.0 ∙ b.0) in
    let rest = one_order (remove ids (one_of (length ids) before)) order also (later before) after left a.1 b.1 in
    (ap₂ (λ h t. h ∷ t) first rest.0, rest.1)

-- whose turn it is
one_turn_of : (order : Order) (place also : ℕ) (s u v : Growth) → IsTurnOf order s place u → IsTurnOf order s also v
    → (place ≡ also) × (u ≡ v)
one_turn_of Random place also s u v a b = one_choice (length s.world.net.packets) place also s u v a b
one_turn_of Oldest place also s u v a b = (a.0 ∙ sym b.0, a.1 ∙ sym b.1)

-- a choice of two ways, each with one outcome
one_way : (b : Bool) (P Q : Growth → Type 0) (u v : Growth) → (P u → P v → u ≡ v) → (Q u → Q v → u ≡ v)
    → MatchBool b (P u) (Q u) → MatchBool b (P v) (Q v) → u ≡ v
one_way true P Q u v p q a b = p a b
one_way false P Q u v p q a b = q a b

told_once : (before s u v : Growth) (packet : ℕ × Message)
    → (HasFailed before packet × Does s (act.CrashReport packet.1.from packet.0) u) ⊎ ((¬ HasFailed before packet)
    × (u ≡ s))
    → (HasFailed before packet × Does s (act.CrashReport packet.1.from packet.0) v) ⊎ ((¬ HasFailed before packet)
    × (v ≡ s))
    → u ≡ v
told_once before s u v packet (inl a) (inl b) = one_act s u v (act.CrashReport packet.1.from packet.0) a.1 b.1
told_once before s u v packet (inl a) (inr b) = absurd (b.0 a.0)
told_once before s u v packet (inr a) (inl b) = absurd (a.0 b.0)
told_once before s u v packet (inr a) (inr b) = a.1 ∙ sym b.1

one_told : (before s u v : Growth) (place : ℕ) → SenderIsTold before place s u → SenderIsTold before place s v → u ≡ v
one_told before s u v place (packet, at, ways) (same, there, also) =
    told_once before s u v packet (ways) (subst (λ p. (HasFailed before p × Does s (act.CrashReport p.1.from p.0) v)
    ⊎ ((¬ HasFailed before p) × (v ≡ s))) (same_Some same packet (sym there ∙ at)) also)

-- what follows a delivery
pub delivery_rest : (rules : PhaseRules) (place : ℕ) (s t u : Growth) → Does s (act.Deliver place) t
    → IsDelivered rules place s u → MatchBool rules.tells_crashes (SenderIsTold s place t u) (u ≡ t)
delivery_rest rules place s t u did (x, also, says) =
    subst (λ y. MatchBool rules.tells_crashes (SenderIsTold s place y u) (u ≡ y))
    (one_act s x t (act.Deliver place) also did) says

pub one_delivery : (rules : PhaseRules) (place : ℕ) (s u v : Growth) → IsDelivered rules place s u
    → IsDelivered rules place s v → u ≡ v
one_delivery rules place s u v (t, did, told) other =
    one_way rules.tells_crashes (λ w. SenderIsTold s place t w) (λ w. w ≡ t) u v
    (λ a b. one_told s t u v place a b) (λ a b. a ∙ sym b) told (delivery_rest rules place s t v did other)

-- what follows the chance of a repetition
pub repetition_rest : (rules : PhaseRules) (place : ℕ) (again : Bool) (s t u : Growth) → Tries rules.repeat s again t
    → MayBeRepeated rules place s u → MatchBool again (Does t (act.Repeat place) u) (u ≡ t)
repetition_rest rules place again s t u tries (once, x, tried, also) =
    let same = one_try rules.repeat once again s x t tried tries in
    subst (λ y. MatchBool again (Does y (act.Repeat place) u) (u ≡ y)) same.1
    (subst (λ b. MatchBool b (Does x (act.Repeat place) u) (u ≡ x)) same.0 also)

one_repetition : (rules : PhaseRules) (place : ℕ) (s u v : Growth) → MayBeRepeated rules place s u
    → MayBeRepeated rules place s v → u ≡ v
one_repetition rules place s u v (again, t, tries, ways) other =
    one_way again (λ w. Does t (act.Repeat place) w) (λ w. w ≡ t) u v
    (λ a b. one_act t u v (act.Repeat place) a b) (λ a b. a ∙ sym b) ways
    (repetition_rest rules place again s t v tries other)

-- a packet that may have been repeated is then delivered
pub arrival_rest : (rules : PhaseRules) (place : ℕ) (s t u : Growth) → MayBeRepeated rules place s t
    → Arrives rules place s u → IsDelivered rules place t u
arrival_rest rules place s t u again (x, also, came) =
    subst (λ y. IsDelivered rules place y u) (one_repetition rules place s x t also again) came

one_arrival : (rules : PhaseRules) (place : ℕ) (s u v : Growth) → Arrives rules place s u → Arrives rules place s v
    → u ≡ v
one_arrival rules place s u v (t, again, arrived) other =
    one_delivery rules place t u v arrived (arrival_rest rules place s t v again other)

-- what follows the choice of a packet and its chance of loss
pub turn_rest : (rules : PhaseRules) (place : ℕ) (lost : Bool) (s t w u : Growth) → IsTurnOf rules.order s place t
    → Tries rules.loss t lost w → Turn rules s u
    → MatchBool lost (Does w (act.Lose place) u) (Arrives rules place w u)
turn_rest rules place lost s t w u whose tries (spot, gone, x, y, who, tried, also) =
    let at = one_turn_of rules.order spot place s x t who whose in
    let try = one_try rules.loss gone lost t y w (subst (λ g. Tries rules.loss g gone y) at.1 tried) tries in
    subst (λ p. MatchBool lost (Does w (act.Lose p) u) (Arrives rules p w u)) at.0
    (subst (λ g. MatchBool lost (Does g (act.Lose spot) u) (Arrives rules spot g u)) try.1
    (subst (λ b. MatchBool b (Does y (act.Lose spot) u) (Arrives rules spot y u)) try.0 also))

pub one_turn : (rules : PhaseRules) (s u v : Growth) → Turn rules s u → Turn rules s v → u ≡ v
one_turn rules s u v (place, lost, t, w, whose, tries, ways) other =
    one_way lost (λ g. Does w (act.Lose place) g) (λ g. Arrives rules place w g) u v
    (λ a b. one_act w u v (act.Lose place) a b) (λ a b. one_arrival rules place w u v a b) ways
    (turn_rest rules place lost s t w v whose tries other)

-- if packets are on their way, there is a turn
pub turns_begin : (rules : PhaseRules) (n : ℕ) (s u : Growth) → ¬ HasNoPackets s → TurnsUpTo rules (suc n) s u
    → (t : Growth) × Turn rules s t
turns_begin rules n s u some (inl none) = absurd (some none.0)
turns_begin rules n s u some (inr (left, t, turn, more)) = (t, turn)

-- what follows a turn
pub turns_rest : (rules : PhaseRules) (n : ℕ) (s t u : Growth) → ¬ HasNoPackets s → Turn rules s t
    → TurnsUpTo rules (suc n) s u → TurnsUpTo rules n t u
turns_rest rules n s t u some turn (inl none) = absurd (some none.0)
turns_rest rules n s t u some turn (inr (left, x, also, others)) =
    subst (λ g. TurnsUpTo rules n g u) (one_turn rules s x t also turn) others

pub one_turns : (rules : PhaseRules) (n : ℕ) (s u v : Growth) → TurnsUpTo rules n s u → TurnsUpTo rules n s v → u ≡ v
one_turns rules zero s u v a b = a ∙ sym b
one_turns rules (suc n) s u v (inl a) (inl b) = a.1 ∙ sym b.1
one_turns rules (suc n) s u v (inl a) (inr b) = absurd (b.0 a.0)
one_turns rules (suc n) s u v (inr (some, t, turn, more)) other =
    one_turns rules n t u v more (turns_rest rules n s t v some turn other)

-- where no packet is left there is no further turn
no_more : (rules : PhaseRules) (n : ℕ) (s u : Growth) → HasNoPackets s → TurnsUpTo rules n s u → u ≡ s
no_more rules zero s u none same = same
no_more rules (suc n) s u none (inl stays) = stays.1
no_more rules (suc n) s u none (inr more) = absurd (more.0 none)

run_out_once : (rules : PhaseRules) (n m : ℕ) (s u v : Growth) → TurnsUpTo rules n s u → HasNoPackets u
    → TurnsUpTo rules m s v → HasNoPackets v → u ≡ v
run_out_once rules zero m s u v a none b empty = a ∙ sym (no_more rules m s v (subst (λ g. HasNoPackets g) a none) b)
run_out_once rules (suc n) zero s u v a none b empty =
    no_more rules (suc n) s u (subst (λ g. HasNoPackets g) b empty) a ∙ sym b
run_out_once rules (suc n) (suc m) s u v (inl a) none b empty = a.1 ∙ sym (no_more rules (suc m) s v a.0 b)
run_out_once rules (suc n) (suc m) s u v (inr (some, t, turn, more)) none other empty =
    run_out_once rules n m t u v more none (turns_rest rules m s t v some turn other) empty

pub one_run_out : (rules : PhaseRules) (s u v : Growth) → RunOut rules s u → RunOut rules s v → u ≡ v
one_run_out rules s u v (n, turns, none) (m, also, empty) = run_out_once rules n m s u v turns none also empty

-- if packets are on their way, they run out by a turn
pub run_out_begins : (rules : PhaseRules) (s u : Growth) → ¬ HasNoPackets s → RunOut rules s u
    → (t : Growth) × Turn rules s t
run_out_begins rules s u some (zero, same, none) = absurd (some (subst (λ g. HasNoPackets g) same none))
run_out_begins rules s u some (suc n, turns, none) = turns_begin rules n s u some turns

-- after a turn they run out too
pub run_out_rest : (rules : PhaseRules) (s t u : Growth) → ¬ HasNoPackets s → Turn rules s t → RunOut rules s u
    → RunOut rules t u
run_out_rest rules s t u some turn (zero, same, none) = absurd (some (subst (λ g. HasNoPackets g) same none))
run_out_rest rules s t u some turn (suc n, turns, none) = (n, turns_rest rules n s t u some turn turns, none)
