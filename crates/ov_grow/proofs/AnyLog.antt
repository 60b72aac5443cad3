-- Each step of growing is one too if another log of broadcasts is kept, or none.
use Rattle.std.proofs.Common.{◌≡◌, ℕ, zero, suc, Bool, true, false, List, [], ◌∷◌, length, Option, Some, None}
use Rattle.std.proofs.Common.{refl, ap, inl, inr}
use Rattle.std.specs.Prelude.{MatchBool, option_map}
use Rattle.ov_ids.specs.declared.id.MsgId.{MsgId}
use Rattle.ov_grow_options.specs.declared.options.Order.{Order}
use Rattle.ov_grow_options.specs.declared.options.Order.TheVariants.{Random, Oldest}
use Rattle.ov_script.specs.Acts.{event_of}
use Rattle.ov_grow.specs.BroadcastLog.{marks_after}
use Rattle.ov_grow.specs.Broadcasts.{AtOnce, BroadcastBy, Broadcasts, BroadcastsBegin, Fire, FireAt, FireAtEach}
use Rattle.ov_grow.specs.Broadcasts.{FireTimes, FiresIfItRuns, IsSender, OneByOne, TimersFire}
use Rattle.ov_grow.specs.Growth.{Growth, AreLive, Chooses, Does, Tries, Writes}
use Rattle.ov_grow.specs.Rounds.{AreLiveInOrder, DoesEach, Round, Rounds}
use Rattle.ov_grow.specs.Turns.{Arrives, IsDelivered, IsTurnOf, MayBeRepeated, RunOut, SenderIsTold, Turn, TurnsUpTo}
use Rattle.ov_grow.specs.declared.broadcast_log.BroadcastMark.{BroadcastMark}
use Rattle.ov_grow.specs.declared.phase_rules.PhaseRules.{PhaseRules}
use Rattle.ov_script.specs.declared.recordable_event.Act.{Act}
use Rattle.ov_script.specs.declared.recordable_event.Act.TheVariants as act

-- growing stands at s, but the log is l
abbrev pub logging : Option (List BroadcastMark) → Growth → Growth
logging l s = record s { log = l }

-- a step leads from s to u also if the log at s is l; at u there is some log then
abbrev pub Also : (Growth → Growth → Type 0) → Option (List BroadcastMark) → Growth → Growth → Type 0
Also Step l s u = (m : Option (List BroadcastMark)) × Step (logging l s) (logging m u)

-- two places that are the same are so with another log
pub same_place : (l : Option (List BroadcastMark)) (s u : Growth) → u ≡ s → logging l u ≡ logging l s
same_place l s u same = ap (λ (g : Growth). logging l g) same

pub also_rests : (l : Option (List BroadcastMark)) (s u : Growth) → u ≡ s → Also (λ a b. b ≡ a) l s u
also_rests l s u same = (l, same_place l s u same)

-- ---- single steps

pub also_act : (what : Act) (l : Option (List BroadcastMark)) (s u : Growth) → Does s what u
    → Also (λ a b. Does a what b) l s u
also_act what l s u does = (
  option_map (marks_after (event_of what) s.world.net u.world.net) l,
  record {
    words = does.words;
    entry = does.entry;
    text = does.text;
    asked = does.asked;
    judged = does.judged;
    step = does.step;
    choices = does.choices;
    log = refl;
  },
)

pub also_write : (written : List ℕ) (l : Option (List BroadcastMark)) (s u : Growth) → Writes s written u
    → Also (λ a b. Writes a written b) l s u
also_write written l s u says = (l, ap (λ (g : Growth). logging l g) says)

pub also_choice : (n place : ℕ) (l : Option (List BroadcastMark)) (s u : Growth) → Chooses n s place u
    → Also (λ a b. Chooses n a place b) l s u
also_choice n place l s u chooses = (l, (chooses.0, ap (λ (g : Growth). logging l g) chooses.1))

also_try : (p : ℕ) (comes : Bool) (l : Option (List BroadcastMark)) (s u : Growth) → Tries p s comes u
    → Also (λ a b. Tries p a comes b) l s u
also_try p comes l s u tries = (l, (tries.0, ap (λ (g : Growth). logging l g) tries.1))

also_live : (l : Option (List BroadcastMark)) (s : Growth) (ids : List ℕ) → AreLive s ids → AreLive (logging l s) ids
also_live l s ids are = record { ascend = are.ascend; live = are.live; each = are.each }

-- one of two ways
pub also_way : (b : Bool) (P Q : Growth → Growth → Type 0) (l : Option (List BroadcastMark)) (s u : Growth)
    → (P s u → Also P l s u) → (Q s u → Also Q l s u) → MatchBool b (P s u) (Q s u)
    → Also (λ x y. MatchBool b (P x y) (Q x y)) l s u
also_way true P Q l s u first second way = first way
also_way false P Q l s u first second way = second way

-- ---- turns

also_turn_of : (order : Order) (place : ℕ) (l : Option (List BroadcastMark)) (s u : Growth) → IsTurnOf order s place u
    → Also (λ a b. IsTurnOf order a place b) l s u
also_turn_of Random place l s u whose = also_choice (length s.world.net.packets) place l s u whose
also_turn_of Oldest place l s u (first, same) = (l, (first, same_place l s u same))

also_told : (before : Growth) (place : ℕ) (l : Option (List BroadcastMark)) (s u : Growth)
    → SenderIsTold before place s u
    → Also (λ a b. SenderIsTold before place a b) l s u
also_told before place l s u (packet, at, inl (failed, does)) =
    let (m, did) = also_act (act.CrashReport packet.1.from packet.0) l s u does in (m, (packet, at, inl (failed, did)))
also_told before place l s u (packet, at, inr (holds, same)) =
    (l, (packet, at, inr (holds, same_place l s u same)))

also_delivery : (rules : PhaseRules) (place : ℕ) (l : Option (List BroadcastMark)) (s u : Growth)
    → IsDelivered rules place s u
    → Also (λ a b. IsDelivered rules place a b) l s u
also_delivery rules place l s u (t, does, told) =
    let (k, did) = also_act (act.Deliver place) l s t does in
    let (m, tells) = also_way rules.tells_crashes (λ a b. SenderIsTold s place a b) (λ a b. b ≡ a) k t u
    (λ way. also_told s place k t u way) (λ way. also_rests k t u way) told in
    (m, (logging k t, did, tells))

also_repetition : (rules : PhaseRules) (place : ℕ) (l : Option (List BroadcastMark)) (s u : Growth)
    → MayBeRepeated rules place s u → Also (λ a b. MayBeRepeated rules place a b) l s u
also_repetition rules place l s u (again, t, tries, ways) =
    let (k, tried) = also_try rules.repeat again l s t tries in
    let (m, way) = also_way again (λ a b. Does a (act.Repeat place) b) (λ a b. b ≡ a) k t u
    (λ does. also_act (act.Repeat place) k t u does) (λ same. also_rests k t u same) ways in
    (m, (again, logging k t, tried, way))

also_arrival : (rules : PhaseRules) (place : ℕ) (l : Option (List BroadcastMark)) (s u : Growth)
    → Arrives rules place s u
    → Also (λ a b. Arrives rules place a b) l s u
also_arrival rules place l s u (t, again, comes) =
    let (k, repeated) = also_repetition rules place l s t again in
    let (m, came) = also_delivery rules place k t u comes in
    (m, (logging k t, repeated, came))

also_turn : (rules : PhaseRules) (l : Option (List BroadcastMark)) (s u : Growth) → Turn rules s u
    → Also (λ a b. Turn rules a b) l s u
also_turn rules l s u (place, lost, t, v, whose, tries, ways) =
    let (k, its) = also_turn_of rules.order place l s t whose in
    let (j, tried) = also_try rules.loss lost k t v tries in
    let (m, way) = also_way lost (λ a b. Does a (act.Lose place) b) (λ a b. Arrives rules place a b) j v u
    (λ does. also_act (act.Lose place) j v u does) (λ comes. also_arrival rules place j v u comes) ways in
    (m, (place, lost, logging k t, logging j v, its, tried, way))

pub also_turns : (rules : PhaseRules) (n : ℕ) (l : Option (List BroadcastMark)) (s u : Growth) → TurnsUpTo rules n s u
    → Also (λ a b. TurnsUpTo rules n a b) l s u
also_turns rules zero l s u same = also_rests l s u same
also_turns rules (suc n) l s u (inl (none, same)) = (l, inl (none, same_place l s u same))
also_turns rules (suc n) l s u (inr (some, t, turn, more)) =
    let (k, turned) = also_turn rules l s t turn in
    let (m, others) = also_turns rules n k t u more in
    (m, inr (some, logging k t, turned, others))

pub also_run_out : (rules : PhaseRules) (l : Option (List BroadcastMark)) (s u : Growth) → RunOut rules s u
    → Also (λ a b. RunOut rules a b) l s u
also_run_out rules l s u (n, turns, none) =
    let (m, turned) = also_turns rules n l s u turns in (m, (n, turned, none))

-- ---- rounds

pub also_each : (what : ℕ → Act) (nodes : List ℕ) (l : Option (List BroadcastMark)) (s u : Growth)
    → DoesEach what nodes s u
    → Also (λ a b. DoesEach what nodes a b) l s u
also_each what [] l s u same = also_rests l s u same
also_each what (node ∷ more) l s u (t, does, each) =
    let (k, did) = also_act (what node) l s t does in
    let (m, others) = also_each what more k t u each in
    (m, (logging k t, did, others))

pub also_in_order : (order : List ℕ) (l : Option (List BroadcastMark)) (s u : Growth) → AreLiveInOrder s order u
    → Also (λ a b. AreLiveInOrder a order b) l s u
also_in_order order l s u (live, after, are, random, same) =
    (l, (live, after, also_live l s live are, random, ap (λ (g : Growth). logging l g) same))

also_round : (rules : PhaseRules) (l : Option (List BroadcastMark)) (s u : Growth) → Round rules s u
    → Also (λ a b. Round rules a b) l s u
also_round rules l s u (order, t, v, are, each, out) =
    let (k, live) = also_in_order order l s t are in
    let (j, shuffled) = also_each act.Shuffle order k t v each in
    let (m, ran) = also_run_out rules j v u out in
    (m, (order, logging k t, logging j v, live, shuffled, ran))

pub also_rounds : (rules : PhaseRules) (n : ℕ) (l : Option (List BroadcastMark)) (s u : Growth) → Rounds rules n s u
    → Also (λ a b. Rounds rules n a b) l s u
also_rounds rules zero l s u same = also_rests l s u same
also_rounds rules (suc n) l s u (t, round, more) =
    let (k, first) = also_round rules l s t round in
    let (m, others) = also_rounds rules n k t u more in
    (m, (logging k t, first, others))

-- ---- broadcasts

also_sender : (sender : Option ℕ) (live : List ℕ) (node : ℕ) (l : Option (List BroadcastMark)) (s u : Growth)
    → IsSender sender live s node u → Also (λ a b. IsSender sender live a node b) l s u
also_sender None live node l s u (place, chooses, at) =
    let (m, chose) = also_choice (length live) place l s u chooses in (m, (place, chose, at))
also_sender (Some n) live node l s u (stands, same) = (l, (stands, same_place l s u same))

also_broadcast : (node : ℕ) (id : MsgId) (l : Option (List BroadcastMark)) (s u : Growth) → BroadcastBy node s id u
    → Also (λ a b. BroadcastBy node a id b) l s u
also_broadcast node id l s u (p, lives, is, does) =
    let (m, did) = also_act (act.Broadcast node) l s u does in (m, (p, lives, is, did))

also_begun : (sender : Option ℕ) (nodes : List ℕ) (n : ℕ) (ids : List MsgId) (l : Option (List BroadcastMark))
    (s u : Growth)
    → BroadcastsBegin sender nodes n s ids u → Also (λ a b. BroadcastsBegin sender nodes n a ids b) l s u
also_begun sender nodes zero ids l s u (none, same) = (l, (none, same_place l s u same))
also_begun sender nodes (suc n) ids l s u (node, id, later, t, v, who, by, are, more) =
    let (k, sends) = also_sender sender nodes node l s t who in
    let (j, sent) = also_broadcast node id k t v by in
    let (m, others) = also_begun sender nodes n later j v u more in
    (m, (node, id, later, logging k t, logging j v, sends, sent, are, others))

also_fires : (node : ℕ) (id : MsgId) (fired : Bool) (l : Option (List BroadcastMark)) (s u : Growth)
    → FiresIfItRuns node id s fired u → Also (λ a b. FiresIfItRuns node id a fired b) l s u
also_fires node id fired l s u (inl (runs, does, is)) =
    let (m, did) = also_act (act.Timer node id) l s u does in (m, inl (runs, did, is))
also_fires node id fired l s u (inr (stands, same, is)) = (l, inr (stands, same_place l s u same, is))

also_fire_at : (node : ℕ) (ids : List MsgId) (fired : Bool) (l : Option (List BroadcastMark)) (s u : Growth)
    → FireAt node ids s fired u → Also (λ a b. FireAt node ids a fired b) l s u
also_fire_at node [] fired l s u (same, is) = (l, (same_place l s u same, is))
also_fire_at node (id ∷ ids) fired l s u (first, others, t, fires, more, is) =
    let (k, one) = also_fires node id first l s t fires in
    let (m, rest) = also_fire_at node ids others k t u more in
    (m, (first, others, logging k t, one, rest, is))

also_fire_each : (nodes : List ℕ) (ids : List MsgId) (fired : Bool) (l : Option (List BroadcastMark)) (s u : Growth)
    → FireAtEach nodes ids s fired u → Also (λ a b. FireAtEach nodes ids a fired b) l s u
also_fire_each [] ids fired l s u (same, is) = (l, (same_place l s u same, is))
also_fire_each (node ∷ nodes) ids fired l s u (first, others, t, fires, more, is) =
    let (k, one) = also_fire_at node ids first l s t fires in
    let (m, rest) = also_fire_each nodes ids others k t u more in
    (m, (first, others, logging k t, one, rest, is))

also_fire : (ids : List MsgId) (fired : Bool) (l : Option (List BroadcastMark)) (s u : Growth) → Fire ids s fired u
    → Also (λ a b. Fire ids a fired b) l s u
also_fire ids fired l s u (live, are, fires) =
    let (m, fire) = also_fire_each live ids fired l s u fires in (m, (live, also_live l s live are, fire))

also_fire_times : (rules : PhaseRules) (ids : List MsgId) (n : ℕ) (l : Option (List BroadcastMark)) (s u : Growth)
    → FireTimes rules ids n s u → Also (λ a b. FireTimes rules ids n a b) l s u
also_fire_times rules ids zero l s u none = also_fire ids false l s u none
also_fire_times rules ids (suc n) l s u (t, v, fires, out, more) =
    let (k, fire) = also_fire ids true l s t fires in
    let (j, ran) = also_run_out rules k t v out in
    let (m, others) = also_fire_times rules ids n j v u more in
    (m, (logging k t, logging j v, fire, ran, others))

also_timers : (rules : PhaseRules) (ids : List MsgId) (l : Option (List BroadcastMark)) (s u : Growth)
    → TimersFire rules ids s u → Also (λ a b. TimersFire rules ids a b) l s u
also_timers rules ids l s u (n, times) =
    let (m, fire) = also_fire_times rules ids n l s u times in (m, (n, fire))

also_at_once : (rules : PhaseRules) (n : ℕ) (ids : List MsgId) (l : Option (List BroadcastMark)) (s u : Growth)
    → AtOnce rules n s ids u → Also (λ a b. AtOnce rules n a ids b) l s u
also_at_once rules n ids l s u (live, t, v, are, begin, out, fires) =
    let (k, begun) = also_begun rules.sender live n ids l s t begin in
    let (j, ran) = also_run_out rules k t v out in
    let (m, fire) = also_timers rules ids j v u fires in
    (m, (live, logging k t, logging j v, also_live l s live are, begun, ran, fire))

also_one_by_one : (rules : PhaseRules) (n : ℕ) (ids : List MsgId) (l : Option (List BroadcastMark)) (s u : Growth)
    → OneByOne rules n s ids u → Also (λ a b. OneByOne rules n a ids b) l s u
also_one_by_one rules zero ids l s u (none, same) = (l, (none, same_place l s u same))
also_one_by_one rules (suc n) ids l s u (first, later, t, once, are, more) =
    let (k, one) = also_at_once rules 1 first l s t once in
    let (m, others) = also_one_by_one rules n later k t u more in
    (m, (first, later, logging k t, one, are, others))

pub also_broadcasts : (rules : PhaseRules) (n : ℕ) (ids : List MsgId) (l : Option (List BroadcastMark)) (s u : Growth)
    → Broadcasts rules n s ids u → Also (λ a b. Broadcasts rules n a ids b) l s u
also_broadcasts rules n ids l s u made =
    also_way rules.sequential (λ a b. OneByOne rules n a ids b) (λ a b. AtOnce rules n a ids b) l s u
    (λ way. also_one_by_one rules n ids l s u way) (λ way. also_at_once rules n ids l s u way) made
