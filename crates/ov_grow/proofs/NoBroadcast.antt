-- Broadcasts that can't be made.
use Rattle.std.proofs.Common.{◌≡◌, ◌<◌, ◌+◌, ℕ, zero, suc, Bool, true, false, List, Option, length, drop, get_or}
use Rattle.std.proofs.Common.{inl, inr, subst}
use Rattle.ov_ids.specs.declared.id.MsgId.{MsgId}
use Rattle.ov_script.specs.declared.recordable_event.Act.TheVariants as act
use Rattle.ov_grow.specs.Growth.{Growth, AreLive, Does}
use Rattle.ov_grow.specs.Turns.{RunOut}
use Rattle.std.specs.Prelude.{MatchBool}
use Rattle.ov_grow.specs.Broadcasts.{AtOnce, BroadcastBy, Broadcasts, BroadcastsBegin, Fire, FireAt, FireAtEach}
use Rattle.ov_grow.specs.Broadcasts.{FiresIfItRuns, IsSender, OneByOne, TimerRuns, TimersFire}
use Rattle.ov_grow.specs.Code.Standing.{Goes, IsNoWay, growth_of}
use Rattle.ov_grow.specs.declared.fault.GrowFault.{GrowFault}
use Rattle.ov_grow.specs.declared.growth_in_progress.Growing.{Growing}
use Rattle.ov_grow.specs.declared.phase_rules.PhaseRules.{PhaseRules}
use Rattle.ov_grow.proofs.Broadcasting.{fire_at_next, fire_each_next}
use Rattle.ov_grow.proofs.Going.{IsOn, no_way_by, on_nowhere}
use Rattle.ov_grow.proofs.OnePhase.{begin_follows, begin_rest, begun_follows, broadcasts_follow, broadcasts_rest}
use Rattle.ov_grow.proofs.OnePhase.{one_by_one_rest}
use Rattle.ov_grow.proofs.OnePhase.{fire_at_rest, fire_each_rest, fire_follows, fired_follows, timers_rest}
use Rattle.ov_grow.proofs.Ways.{timers_goes}

-- no node broadcasts
pub no_way_broadcast : (node : ℕ) (b : Growing) (fault : GrowFault)
    → IsNoWay (λ s u. Does s (act.Broadcast node) u) b fault
    → IsNoWay (λ s u. (id : MsgId) × BroadcastBy node s id u) b fault
no_way_broadcast node b fault none =
    no_way_by (λ s u. Does s (act.Broadcast node) u) (λ s u. (id : MsgId) × BroadcastBy node s id u) b b fault
    (λ u (id, (p, lives, is, did)). (u, did)) none

-- of so many steps by which messages begin so many are left when growing has come from b to t
abbrev pub AreLeft : (ℕ → Growth → List MsgId → Growth → Type 0) → ℕ → ℕ → Growing → Growing → Type 0
AreLeft Way count n b t =
    (ids : List MsgId) (u : Growth) → Way count (growth_of b) ids u
    → (rest : List MsgId) × Way n (growth_of t) rest u

-- the next broadcast can't be made
pub no_way_next : (sender : Option ℕ) (nodes : List ℕ) (count n m node : ℕ) (b t v : Growing) (fault : GrowFault)
    → AreLeft (BroadcastsBegin sender nodes) count n b t → n ≡ suc m
    → Goes (λ s w. IsSender sender nodes s node w) t v
    → IsNoWay (λ s u. (id : MsgId) × BroadcastBy node s id u) v fault
    → IsNoWay (λ s u. (ids : List MsgId) × BroadcastsBegin sender nodes count s ids u) b fault
no_way_next sender nodes count n m node b t v fault so one whose none =
    no_way_by (λ s u. (id : MsgId) × BroadcastBy node s id u)
    (λ s u. (ids : List MsgId) × BroadcastsBegin sender nodes count s ids u) v b fault
    (λ u (ids, begin).
    let (others, more) = so ids u begin in
    let (id, later, w, by, same, last) = begin_follows sender nodes m node others (growth_of t) (growth_of v) u
    whose.way
    (subst (λ k. BroadcastsBegin sender nodes k (growth_of t) others u) one more) in
    (w, (id, by))) none

-- one more broadcast was made
pub left_next : (sender : Option ℕ) (nodes : List ℕ) (count n m node : ℕ) (id : MsgId) (b t v w : Growing)
    → AreLeft (BroadcastsBegin sender nodes) count n b t → n ≡ suc m
    → Goes (λ s x. IsSender sender nodes s node x) t v → Goes (λ s x. BroadcastBy node s id x) v w
    → AreLeft (BroadcastsBegin sender nodes) count m b w
left_next sender nodes count n m node id b t v w so one whose by ids u begin =
    let (others, more) = so ids u begin in
    let (later, same, last) = begin_rest sender nodes m node id others (growth_of t) (growth_of v) (growth_of w) u
    whose.way by.way (subst (λ k. BroadcastsBegin sender nodes k (growth_of t) others u) one more) in
    (later, last)

-- a timer that runs fires
timer_fires : (node : ℕ) (id : MsgId) (s u : Growth) (fired : Bool) → TimerRuns s node id
    → FiresIfItRuns node id s fired u → Does s (act.Timer node id) u
timer_fires node id s u fired runs (inl (run, did, holds)) = did
timer_fires node id s u fired runs (inr (not_runs, same, fails)) = absurd (not_runs runs)

-- a timer that runs can't fire
pub no_way_timer : (node : ℕ) (id : MsgId) (b : Growing) (fault : GrowFault) → TimerRuns (growth_of b) node id
    → IsNoWay (λ s u. Does s (act.Timer node id) u) b fault
    → IsNoWay (λ s u. (fired : Bool) × FiresIfItRuns node id s fired u) b fault
no_way_timer node id b fault runs none =
    no_way_by (λ s u. Does s (act.Timer node id) u) (λ s u. (fired : Bool) × FiresIfItRuns node id s fired u) b b fault
    (λ u (fired, fires). (u, timer_fires node id (growth_of b) u fired runs fires)) none

-- of these messages those are left when growing has come from b to t
abbrev pub LeftAt : ℕ → List MsgId → List MsgId → Growing → Growing → Type 0
LeftAt node ids rest b t =
    (fired : Bool) (u : Growth) → FireAt node ids (growth_of b) fired u
    → (others : Bool) × FireAt node rest (growth_of t) others u

-- the timer of the next message can't fire
pub no_way_at : (node : ℕ) (ids : List MsgId) (i : ℕ) (id : MsgId) (b t : Growing) (fault : GrowFault)
    → LeftAt node ids (drop i ids) b t → i < length ids → id ≡ get_or ids i id
    → IsNoWay (λ s u. (fired : Bool) × FiresIfItRuns node id s fired u) t fault
    → IsNoWay (λ s u. (fired : Bool) × FireAt node ids s fired u) b fault
no_way_at node ids i id b t fault so within is none =
    no_way_by (λ s u. (fired : Bool) × FiresIfItRuns node id s fired u)
    (λ s u. (fired : Bool) × FireAt node ids s fired u) t b fault
    (λ u (fired, fires).
    let (others, more) = so fired u fires in
    let (first, later, v, fire, last, same) = fire_at_next node ids i id others (growth_of t) u within is more in
    (v, (first, fire))) none

-- one message more was seen to
pub left_at_next : (node : ℕ) (ids : List MsgId) (i : ℕ) (id : MsgId) (first : Bool) (b t v : Growing)
    → LeftAt node ids (drop i ids) b t → i < length ids → id ≡ get_or ids i id
    → Goes (λ s w. FiresIfItRuns node id s first w) t v → LeftAt node ids (drop (i + 1) ids) b v
left_at_next node ids i id first b t v so within is fires fired u all =
    let (others, more) = so fired u all in
    let (later, same, last) = fire_at_rest node id (drop (i + 1) ids) first others (growth_of t) (growth_of v) u
    fires.way (fire_at_next node ids i id others (growth_of t) u within is more) in
    (later, last)

-- of these nodes those are left when growing has come from b to t
abbrev pub LeftAtEach : List ℕ → List ℕ → List MsgId → Growing → Growing → Type 0
LeftAtEach nodes rest ids b t =
    (fired : Bool) (u : Growth) → FireAtEach nodes ids (growth_of b) fired u
    → (others : Bool) × FireAtEach rest ids (growth_of t) others u

-- timers at the next node can't fire
pub no_way_at_each : (nodes : List ℕ) (ids : List MsgId) (i node : ℕ) (b t : Growing) (fault : GrowFault)
    → LeftAtEach nodes (drop i nodes) ids b t → i < length nodes → node ≡ get_or nodes i node
    → IsNoWay (λ s u. (fired : Bool) × FireAt node ids s fired u) t fault
    → IsNoWay (λ s u. (fired : Bool) × FireAtEach nodes ids s fired u) b fault
no_way_at_each nodes ids i node b t fault so within is none =
    no_way_by (λ s u. (fired : Bool) × FireAt node ids s fired u)
    (λ s u. (fired : Bool) × FireAtEach nodes ids s fired u) t b fault
    (λ u (fired, fires).
    let (others, more) = so fired u fires in
    let (first, later, v, fire, last, same) = fire_each_next nodes ids i node others (growth_of t) u within is more in
    (v, (first, fire))) none

-- one node more was seen to
pub left_each_next : (nodes : List ℕ) (ids : List MsgId) (i node : ℕ) (first : Bool) (b t v : Growing)
    → LeftAtEach nodes (drop i nodes) ids b t → i < length nodes → node ≡ get_or nodes i node
    → Goes (λ s w. FireAt node ids s first w) t v → LeftAtEach nodes (drop (i + 1) nodes) ids b v
left_each_next nodes ids i node first b t v so within is fires fired u all =
    let (others, more) = so fired u all in
    let (later, same, last) = fire_each_rest node (drop (i + 1) nodes) ids first others (growth_of t) (growth_of v) u
    fires.way (fire_each_next nodes ids i node others (growth_of t) u within is more) in
    (later, last)

-- timers can't fire at the live nodes
pub no_way_fire : (ids : List MsgId) (live nodes : List ℕ) (b : Growing) (fault : GrowFault)
    → AreLive (growth_of b) live → nodes ≡ live
    → IsNoWay (λ s u. (fired : Bool) × FireAtEach nodes ids s fired u) b fault
    → IsNoWay (λ s u. (fired : Bool) × Fire ids s fired u) b fault
no_way_fire ids live nodes b fault are same none =
    no_way_by (λ s u. (fired : Bool) × FireAtEach live ids s fired u) (λ s u. (fired : Bool) × Fire ids s fired u)
    b b fault (λ u (fired, fires). (u, (fired, fire_follows ids live (growth_of b) u fired are fires)))
    (subst (λ xs. IsNoWay (λ s u. (fired : Bool) × FireAtEach xs ids s fired u) b fault) same none)

-- timers fire at least once
first_fire : (rules : PhaseRules) (ids : List MsgId) (s u : Growth) → TimersFire rules ids s u
    → (v : Growth) × ((fired : Bool) × Fire ids s fired v)
first_fire rules ids s u (zero, fires) = (u, (false, fires))
first_fire rules ids s u (suc n, (t, v, fires, out, more)) = (t, (true, fires))

-- timers can't fire
pub no_way_timers : (rules : PhaseRules) (ids : List MsgId) (b t : Growing) (fault : GrowFault)
    → IsOn (TimersFire rules ids) (TimersFire rules ids) b t
    → IsNoWay (λ s u. (fired : Bool) × Fire ids s fired u) t fault → IsNoWay (TimersFire rules ids) b fault
no_way_timers rules ids b t fault so none =
    on_nowhere (TimersFire rules ids) (TimersFire rules ids) (λ s u. (fired : Bool) × Fire ids s fired u) b t fault so
    (λ u timers. first_fire rules ids (growth_of t) u timers) none

-- a timer fired, and packets can't run out
pub no_way_fired : (rules : PhaseRules) (ids : List MsgId) (fired : Bool) (b t v : Growing) (fault : GrowFault)
    → IsOn (TimersFire rules ids) (TimersFire rules ids) b t → fired ≡ true → Goes (λ s w. Fire ids s fired w) t v
    → IsNoWay (RunOut rules) v fault → IsNoWay (TimersFire rules ids) b fault
no_way_fired rules ids fired b t v fault so holds fires none =
    no_way_by (RunOut rules) (TimersFire rules ids) v b fault
    (λ u timers.
    let left = fired_follows rules ids (growth_of t) (growth_of v) u
    (subst (λ f. Fire ids (growth_of t) f (growth_of v)) holds fires.way) (so.leads u timers) in
    (left.0, left.1)) none

-- a timer fired, and packets ran out
pub left_timers : (rules : PhaseRules) (ids : List MsgId) (fired : Bool) (b t v w : Growing)
    → IsOn (TimersFire rules ids) (TimersFire rules ids) b t → fired ≡ true → Goes (λ s x. Fire ids s fired x) t v
    → Goes (RunOut rules) v w → IsOn (TimersFire rules ids) (TimersFire rules ids) b w
left_timers rules ids fired b t v w so holds fires out = record {
  goes = λ u more. so.goes u (timers_goes rules ids fired t v w u holds fires out more);
  leads = λ u timers. timers_rest rules ids (growth_of t) (growth_of v) (growth_of w) u
      (subst (λ f. Fire ids (growth_of t) f (growth_of v)) holds fires.way) out.way (so.leads u timers);
}

-- broadcasts can't begin
pub no_way_begin : (rules : PhaseRules) (n : ℕ) (live nodes : List ℕ) (b : Growing) (fault : GrowFault)
    → AreLive (growth_of b) live → nodes ≡ live
    → IsNoWay (λ s u. (ids : List MsgId) × BroadcastsBegin rules.sender nodes n s ids u) b fault
    → IsNoWay (λ s u. (ids : List MsgId) × AtOnce rules n s ids u) b fault
no_way_begin rules n live nodes b fault are same none =
    no_way_by (λ s u. (ids : List MsgId) × BroadcastsBegin rules.sender live n s ids u)
    (λ s u. (ids : List MsgId) × AtOnce rules n s ids u) b b fault
    (λ u (ids, broadcasts).
    let (t, v, begin, out, fires) = broadcasts_follow rules n live ids (growth_of b) u are broadcasts in
    (t, (ids, begin)))
    (subst (λ xs. IsNoWay (λ s u. (ids : List MsgId) × BroadcastsBegin rules.sender xs n s ids u) b fault) same none)

-- broadcasts have begun, and packets can't run out
pub no_way_begun : (rules : PhaseRules) (n : ℕ) (live nodes : List ℕ) (ids : List MsgId) (b t : Growing)
    (fault : GrowFault) → AreLive (growth_of b) live → nodes ≡ live
    → Goes (λ s w. BroadcastsBegin rules.sender nodes n s ids w) b t → IsNoWay (RunOut rules) t fault
    → IsNoWay (λ s u. (ids : List MsgId) × AtOnce rules n s ids u) b fault
no_way_begun rules n live nodes ids b t fault are same begin none =
    no_way_by (RunOut rules) (λ s u. (ids : List MsgId) × AtOnce rules n s ids u) t b fault
    (λ u (also, broadcasts).
    let (one, (v, out, fires)) = begun_follows rules n live ids also (growth_of b) (growth_of t) u are
    (subst (λ xs. BroadcastsBegin rules.sender xs n (growth_of b) ids (growth_of t)) same begin.way) broadcasts in
    (v, out)) none

-- packets have run out, and timers can't fire
pub no_way_at_once : (rules : PhaseRules) (n : ℕ) (live nodes : List ℕ) (ids messages : List MsgId)
    (b t v : Growing) (fault : GrowFault) → AreLive (growth_of b) live → nodes ≡ live → messages ≡ ids
    → Goes (λ s w. BroadcastsBegin rules.sender nodes n s ids w) b t → Goes (RunOut rules) t v
    → IsNoWay (TimersFire rules messages) v fault → IsNoWay (λ s u. (ids : List MsgId) × AtOnce rules n s ids u) b fault
no_way_at_once rules n live nodes ids messages b t v fault are same names begin out none =
    no_way_by (TimersFire rules ids) (λ s u. (ids : List MsgId) × AtOnce rules n s ids u) v b fault
    (λ u (also, broadcasts). (
      u,
      (broadcasts_rest rules n live ids also (growth_of b) (growth_of t) (growth_of v) u are
          (subst (λ xs. BroadcastsBegin rules.sender xs n (growth_of b) ids (growth_of t)) same begin.way) out.way
          broadcasts).1,
    ))
    (subst (λ ms. IsNoWay (TimersFire rules ms) v fault) names none)

-- the first of so many broadcasts that are made one by one
first_of_them : (rules : PhaseRules) (n m : ℕ) (ids : List MsgId) (s u : Growth) → n ≡ suc m → OneByOne rules n s ids u
    → OneByOne rules (suc m) s ids u
first_of_them rules n m ids s u one made = subst (λ k. OneByOne rules k s ids u) one made

-- the next of them can't be made
pub no_way_one : (rules : PhaseRules) (count n m : ℕ) (b t : Growing) (fault : GrowFault)
    → AreLeft (OneByOne rules) count n b t → n ≡ suc m
    → IsNoWay (λ s u. (ids : List MsgId) × AtOnce rules 1 s ids u) t fault
    → IsNoWay (λ s u. (ids : List MsgId) × OneByOne rules count s ids u) b fault
no_way_one rules count n m b t fault so one none =
    no_way_by (λ s u. (ids : List MsgId) × AtOnce rules 1 s ids u)
    (λ s u. (ids : List MsgId) × OneByOne rules count s ids u) t b fault
    (λ u (ids, made).
    let (others, more) = so ids u made in
    let (first, later, v, head, is, rest) = first_of_them rules n m others (growth_of t) u one more in
    (v, (first, head))) none

-- one more of them was made
pub left_one : (rules : PhaseRules) (count n m : ℕ) (first : List MsgId) (b t v : Growing)
    → AreLeft (OneByOne rules) count n b t → n ≡ suc m → Goes (λ s x. AtOnce rules 1 s first x) t v
    → AreLeft (OneByOne rules) count m b v
left_one rules count n m first b t v so one head ids u made =
    let (others, more) = so ids u made in
    let (later, is, rest) = one_by_one_rest rules m first others (growth_of t) (growth_of v) u head.way
    (first_of_them rules n m others (growth_of t) u one more) in
    (later, rest)

-- broadcasts can't be made one by one, as the rules say
pub no_way_by_turns : (rules : PhaseRules) (n : ℕ) (b : Growing) (fault : GrowFault) → rules.sequential ≡ true
    → IsNoWay (λ s u. (ids : List MsgId) × OneByOne rules n s ids u) b fault
    → IsNoWay (λ s u. (ids : List MsgId) × Broadcasts rules n s ids u) b fault
no_way_by_turns rules n b fault holds none =
    no_way_by (λ s u. (ids : List MsgId) × OneByOne rules n s ids u)
    (λ s u. (ids : List MsgId) × Broadcasts rules n s ids u) b b fault
    (λ u (ids, made). (
      u,
      (
        ids,
        subst (λ q. MatchBool q (OneByOne rules n (growth_of b) ids u)
            (AtOnce rules n (growth_of b) ids u)) holds made,
      ),
    )) none

-- broadcasts can't be made at once, as the rules say
pub no_way_together : (rules : PhaseRules) (n : ℕ) (b : Growing) (fault : GrowFault) → rules.sequential ≡ false
    → IsNoWay (λ s u. (ids : List MsgId) × AtOnce rules n s ids u) b fault
    → IsNoWay (λ s u. (ids : List MsgId) × Broadcasts rules n s ids u) b fault
no_way_together rules n b fault fails none =
    no_way_by (λ s u. (ids : List MsgId) × AtOnce rules n s ids u)
    (λ s u. (ids : List MsgId) × Broadcasts rules n s ids u) b b fault
    (λ u (ids, made). (
      u,
      (
        ids,
        subst (λ q. MatchBool q (OneByOne rules n (growth_of b) ids u)
            (AtOnce rules n (growth_of b) ids u)) fails made,
      ),
    )) none
