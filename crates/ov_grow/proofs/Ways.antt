-- What calls in turn give.
use Rattle.std.proofs.Common.{◌≡◌, ◌<◌, ◌≤◌, ◌+◌, ◌-◌, ℕ, zero, suc, Bool, true, false, List, ◌∷◌, length, drop}
use Rattle.std.proofs.Common.{◌++◌, Option, Some, None, refl, sym, subst, inl, inr, arith}
use Rattle.std.specs.Prelude.{codes, MatchBool}
use Rattle.rand_pcg.specs.Lcg.{Lcg}
use Rattle.ov_ids.specs.declared.id.MsgId.{MsgId}
use Rattle.ov_snap.specs.CoreState.{KeepsReports}
use Rattle.ov_grow_options.specs.declared.options.GrowOptions.{GrowOptions}
use Rattle.ov_script.specs.WrittenLines.{comment_line}
use Rattle.ov_script.specs.declared.recordable_event.Act.TheVariants as act
use Rattle.ov_grow.specs.Choices.{after_chance, comes_true}
use Rattle.ov_grow.specs.Growth.{Growth, AreLive, Chooses, Does, Writes}
use Rattle.ov_grow.specs.Turns.{Arrives, IsTurnOf, MayBeRepeated, RunOut, Turn, TurnsUpTo}
use Rattle.ov_grow.specs.Rounds.{AreLiveInOrder, DoesEach, Round, Rounds}
use Rattle.ov_grow.specs.Broadcasts.{AtOnce, BroadcastBy, Broadcasts, BroadcastsBegin, Fire, FireTimes, IsSender}
use Rattle.ov_grow.specs.Broadcasts.{OneByOne, TimersFire}
use Rattle.ov_grow.specs.Phases.{AreFirst, AreToCrash, Births, CrashNodes, EndsPhase, Heal, IsAnalysedAt, Join}
use Rattle.ov_grow.specs.Phases.{AreTold, ReportCrashes, Settle, crashing, deliveries_in, healing, joining, settling}
use Rattle.ov_grow.specs.Phases.{turns_between}
use Rattle.ov_grow.specs.Code.Standing.{Goes, growth_of}
use Rattle.ov_grow.specs.declared.growth_in_progress.Growing.{Growing}
use Rattle.ov_grow.specs.declared.phase_moment_and_deliveries.PhaseEnd.{PhaseEnd}
use Rattle.ov_grow.specs.declared.phase_rules.PhaseRules.{PhaseRules}
use Rattle.ov_grow.proofs.Going.{kept_trans, tried}
use Rattle.ov_grow.proofs.Turning.{AsLong, Longer, as_long_by, does_longer, entries, longer_by}
use Rattle.ov_grow.proofs.Turning.{not_repeated, repeated}
use Rattle.ov_grow.proofs.Turning.{run_out_as_long, turn_arrives, turn_lost}
use Rattle.ov_grow.proofs.Broadcasting.{as_long_if, begins_more, fire_longer, fire_longer_if, one_more, sender_same}
use Rattle.ov_grow.proofs.Broadcasting.{timers_more}

-- a packet is lost in its turn
pub lost_goes : (rules : PhaseRules) (place n : ℕ) (lost : Bool) (b t u : Growing) (left : Lcg)
    → Goes (λ s w. IsTurnOf rules.order s place w) b t
    → n ≡ rules.loss → lost ≡ comes_true n t.choices → left ≡ after_chance n t.choices → lost ≡ true
    → Goes (λ s w. Does s (act.Lose place) w) (record t { choices = left }) u → Goes (Turn rules) b u
lost_goes rules place n lost b t u left whose same value rest holds did = record {
  way = turn_lost rules place lost (growth_of b) (growth_of t) (growth_of (record t { choices = left })) (growth_of u)
      holds whose.way (tried t rules.loss n lost left same value rest).way did.way;
  kept = kept_trans b.recording.core t.recording.core u.recording.core whose.kept did.kept;
}

-- a packet arrives in its turn
pub arrives_goes : (rules : PhaseRules) (place n : ℕ) (lost : Bool) (b t u : Growing) (left : Lcg)
    → Goes (λ s w. IsTurnOf rules.order s place w) b t
    → n ≡ rules.loss → lost ≡ comes_true n t.choices → left ≡ after_chance n t.choices → lost ≡ false
    → Goes (Arrives rules place) (record t { choices = left }) u → Goes (Turn rules) b u
arrives_goes rules place n lost b t u left whose same value rest fails gone = record {
  way = turn_arrives rules place lost (growth_of b) (growth_of t) (growth_of (record t { choices = left }))
      (growth_of u)
      fails whose.way (tried t rules.loss n lost left same value rest).way gone.way;
  kept = kept_trans b.recording.core t.recording.core u.recording.core whose.kept gone.kept;
}

-- a packet is repeated
pub repeated_goes : (rules : PhaseRules) (place n : ℕ) (again : Bool) (b u : Growing) (left : Lcg)
    → n ≡ rules.repeat → again ≡ comes_true n b.choices → left ≡ after_chance n b.choices → again ≡ true
    → Goes (λ s w. Does s (act.Repeat place) w) (record b { choices = left }) u → Goes (MayBeRepeated rules place) b u
repeated_goes rules place n again b u left same value rest holds did = record {
  way = repeated rules place again (growth_of b) (growth_of (record b { choices = left })) (growth_of u) holds
      (tried b rules.repeat n again left same value rest).way did.way;
  kept = did.kept;
}

-- a packet is not repeated
pub not_repeated_goes : (rules : PhaseRules) (place n : ℕ) (again : Bool) (b : Growing) (left : Lcg)
    → n ≡ rules.repeat → again ≡ comes_true n b.choices → left ≡ after_chance n b.choices → again ≡ false
    → Goes (MayBeRepeated rules place) b (record b { choices = left })
not_repeated_goes rules place n again b left same value rest fails =
    let tries = tried b rules.repeat n again left same value rest in record {
      way = not_repeated rules place again (growth_of b) (growth_of (record b { choices = left })) fails tries.way;
      kept = tries.kept;
    }

-- a round of shuffles
pub round_goes : (rules : PhaseRules) (order nodes : List ℕ) (b t v u : Growing) → nodes ≡ order
    → Goes (λ s w. AreLiveInOrder s order w) b t → Goes (DoesEach act.Shuffle nodes) t v → Goes (RunOut rules) v u
    → Goes (Round rules) b u
round_goes rules order nodes b t v u same lives each out = record {
  way = (
    order,
    growth_of t,
    growth_of v,
    lives.way,
    subst (λ xs. DoesEach act.Shuffle xs (growth_of t) (growth_of v)) same each.way,
    out.way,
  );
  kept = kept_trans b.recording.core t.recording.core u.recording.core lives.kept
      (kept_trans t.recording.core v.recording.core u.recording.core each.kept out.kept);
}

-- timers fired, and packets ran out
pub timers_goes : (rules : PhaseRules) (ids : List MsgId) (fired : Bool) (b t v u : Growing) → fired ≡ true
    → Goes (λ s w. Fire ids s fired w) b t → Goes (RunOut rules) t v → Goes (TimersFire rules ids) v u
    → Goes (TimersFire rules ids) b u
timers_goes rules ids fired b t v u holds fires out more = record {
  way = timers_more rules ids (growth_of b) (growth_of t) (growth_of v) (growth_of u)
      (subst (λ f. Fire ids (growth_of b) f (growth_of t)) holds fires.way) out.way more.way;
  kept = kept_trans b.recording.core t.recording.core u.recording.core fires.kept
      (kept_trans t.recording.core v.recording.core u.recording.core out.kept more.kept);
}

-- no timer fired
pub timers_rest : (rules : PhaseRules) (ids : List MsgId) (fired : Bool) (b t : Growing) → fired ≡ false
    → Goes (λ s w. Fire ids s fired w) b t → Goes (TimersFire rules ids) b t
timers_rest rules ids fired b t fails fires = record {
  way = (0, subst (λ f. Fire ids (growth_of b) f (growth_of t)) fails fires.way);
  kept = fires.kept;
}

-- one more of some nodes broadcasts
pub begin_goes : (sender : Option ℕ) (nodes : List ℕ) (n m node : ℕ) (id : MsgId) (later : List MsgId)
    (b t v u : Growing) → n ≡ suc m → Goes (λ s w. IsSender sender nodes s node w) b t
    → Goes (λ s w. BroadcastBy node s id w) t v → Goes (λ s w. BroadcastsBegin sender nodes m s later w) v u
    → Goes (λ s w. BroadcastsBegin sender nodes n s (id ∷ later) w) b u
begin_goes sender nodes n m node id later b t v u one whose by more = record {
  way = begins_more sender nodes n m node id later (growth_of b) (growth_of t) (growth_of v) (growth_of u) one
      whose.way by.way more.way;
  kept = kept_trans b.recording.core t.recording.core u.recording.core whose.kept
      (kept_trans t.recording.core v.recording.core u.recording.core by.kept more.kept);
}

-- all broadcasts at once
pub at_once_goes : (rules : PhaseRules) (n : ℕ) (live nodes : List ℕ) (ids messages : List MsgId) (b t v u : Growing)
    → AreLive (growth_of b) live → nodes ≡ live → messages ≡ ids
    → Goes (λ s w. BroadcastsBegin rules.sender nodes n s ids w) b t → Goes (RunOut rules) t v
    → Goes (TimersFire rules messages) v u → Goes (λ s w. AtOnce rules n s ids w) b u
at_once_goes rules n live nodes ids messages b t v u are same names begin out fires = record {
  way = (
    live,
    growth_of t,
    growth_of v,
    are,
    subst (λ xs. BroadcastsBegin rules.sender xs n (growth_of b) ids (growth_of t)) same begin.way,
    out.way,
    subst (λ ms. TimersFire rules ms (growth_of v) (growth_of u)) names fires.way,
  );
  kept = kept_trans b.recording.core t.recording.core u.recording.core begin.kept
      (kept_trans t.recording.core v.recording.core u.recording.core out.kept fires.kept);
}

-- one broadcast more of those that are made one by one
pub one_goes : (rules : PhaseRules) (n m : ℕ) (first later : List MsgId) (b t u : Growing) → n ≡ suc m
    → Goes (λ s w. AtOnce rules 1 s first w) b t → Goes (λ s w. OneByOne rules m s later w) t u
    → Goes (λ s w. OneByOne rules n s (first ++ later) w) b u
one_goes rules n m first later b t u one head more = record {
  way = one_more rules n m first later (growth_of b) (growth_of t) (growth_of u) one head.way more.way;
  kept = kept_trans b.recording.core t.recording.core u.recording.core head.kept more.kept;
}

-- broadcasts are made one by one, as the rules say
pub by_turns_goes : (rules : PhaseRules) (n : ℕ) (ids : List MsgId) (b u : Growing) → rules.sequential ≡ true
    → Goes (λ s w. OneByOne rules n s ids w) b u → Goes (λ s w. Broadcasts rules n s ids w) b u
by_turns_goes rules n ids b u holds made = record {
  way = subst (λ q. MatchBool q (OneByOne rules n (growth_of b) ids (growth_of u))
      (AtOnce rules n (growth_of b) ids (growth_of u))) (sym holds) made.way;
  kept = made.kept;
}

-- broadcasts are made at once, as the rules say
pub together_goes : (rules : PhaseRules) (n : ℕ) (ids : List MsgId) (b u : Growing) → rules.sequential ≡ false
    → Goes (λ s w. AtOnce rules n s ids w) b u → Goes (λ s w. Broadcasts rules n s ids w) b u
together_goes rules n ids b u fails made = record {
  way = subst (λ q. MatchBool q (OneByOne rules n (growth_of b) ids (growth_of u))
      (AtOnce rules n (growth_of b) ids (growth_of u))) (sym fails) made.way;
  kept = made.kept;
}

begin_as_long : (sender : Option ℕ) (nodes : List ℕ) (n : ℕ) (s u : Growth) (ids : List MsgId)
    → BroadcastsBegin sender nodes n s ids u → AsLong s u
begin_as_long sender nodes zero s u ids (none, same) = inl same
begin_as_long sender nodes (suc n) s u ids (node, id, later, t, v, whose, (p, lives, is, did), names, more) =
    let first : Longer t v = does_longer t v (act.Broadcast node) did in
    let from : Longer s v = record {
      more = subst (λ w. length w.journal < entries v) (sender_same sender nodes node s t whose) first.more;
      most = first.most;
    } in
    inr (longer_by s v u from (begin_as_long sender nodes n v u later more))

times_as_long : (rules : PhaseRules) (ids : List MsgId) (n : ℕ) (s u : Growth) → FireTimes rules ids n s u → AsLong s u
times_as_long rules ids zero s u none = as_long_if false s u (fire_longer_if ids s u false none)
times_as_long rules ids (suc n) s u (t, v, fires, out, more) =
    inr (longer_by s t u (fire_longer ids s t true refl fires)
    (as_long_by t v u (run_out_as_long rules t v out) (times_as_long rules ids n v u more)))

at_once_as_long : (rules : PhaseRules) (n : ℕ) (s u : Growth) (ids : List MsgId) → AtOnce rules n s ids u → AsLong s u
at_once_as_long rules n s u ids (live, t, v, are, begin, out, (m, fires)) =
    as_long_by s t u (begin_as_long rules.sender live n s t ids begin)
    (as_long_by t v u (run_out_as_long rules t v out) (times_as_long rules ids m v u fires))

one_by_one_as_long : (rules : PhaseRules) (n : ℕ) (s u : Growth) (ids : List MsgId) → OneByOne rules n s ids u
    → AsLong s u
one_by_one_as_long rules zero s u ids (none, same) = inl same
one_by_one_as_long rules (suc n) s u ids (first, later, t, one, is, more) =
    as_long_by s t u (at_once_as_long rules 1 s t first one) (one_by_one_as_long rules n t u later more)

either_as_long : (sequential : Bool) (rules : PhaseRules) (n : ℕ) (s u : Growth) (ids : List MsgId)
    → MatchBool sequential (OneByOne rules n s ids u) (AtOnce rules n s ids u) → AsLong s u
either_as_long true rules n s u ids made = one_by_one_as_long rules n s u ids made
either_as_long false rules n s u ids made = at_once_as_long rules n s u ids made

-- broadcasts take no entry away
pub broadcasts_as_long : (rules : PhaseRules) (n : ℕ) (s u : Growth) (ids : List MsgId) → Broadcasts rules n s ids u
    → AsLong s u
broadcasts_as_long rules n s u ids made = either_as_long rules.sequential rules n s u ids made

pub as_long_least : (s u : Growth) → AsLong s u → entries s ≤ entries u
as_long_least s u (inl same) = subst (λ g. entries s ≤ entries g) (sym same) (omega arith)
as_long_least s u (inr more) = omega (arith, more.more)

-- a phase ends
pub ends_goes : (rules : PhaseRules) (n m d : ℕ) (ids : List MsgId) (b t u : Growing)
    → Goes (λ s w. IsAnalysedAt m s w) b t → Goes (λ s w. Broadcasts rules n s ids w) t u
    → d ≡ deliveries_in (drop m u.recording.core.world.journal)
    → Goes (λ s w. EndsPhase rules n s (record { moment = m; deliveries = d }) w) b u
ends_goes rules n m d ids b t u analysed broadcasts count = record {
  way = (growth_of t, analysed.way, (ids, broadcasts.way), count);
  kept = kept_trans b.recording.core t.recording.core u.recording.core analysed.kept broadcasts.kept;
}

-- births go on
pub births_more : (rules : PhaseRules) (pace id n m place who contact : ℕ) (b t v w u : Growing) → n ≡ suc m
    → Goes (TurnsUpTo rules pace) b t → Chooses (id - 1) (growth_of t) place (growth_of v)
    → v.recording ≡ t.recording → who ≡ id → contact ≡ 1 + place
    → Goes (λ s x. Does s (act.Boot who (Some contact)) x) v w → Goes (Births rules pace (id + 1) m) w u
    → Goes (Births rules pace id n) b u
births_more rules pace id n m place who contact b t v w u one turns chooses same is by did more = record {
  way = subst (λ k. Births rules pace id k (growth_of b) (growth_of u)) (sym one) (
    place,
    growth_of t,
    growth_of v,
    growth_of w,
    turns.way,
    chooses,
    subst (λ x. Does (growth_of v) (act.Boot x (Some (1 + place))) (growth_of w)) is
        (subst (λ x. Does (growth_of v) (act.Boot who (Some x)) (growth_of w)) by did.way),
    more.way,
  );
  kept = kept_trans b.recording.core t.recording.core u.recording.core turns.kept
      (subst (λ r. KeepsReports r.core u.recording.core) same
      (kept_trans v.recording.core w.recording.core u.recording.core did.kept more.kept));
}

pub births_end : (rules : PhaseRules) (pace id n : ℕ) (s : Growth) → n ≡ 0 → Births rules pace id n s s
births_end rules pace id n s none = subst (λ k. Births rules pace id k s s) (sym none) refl

-- nodes join
pub join_goes : (o : GrowOptions) (rules : PhaseRules) (pace nodes who : ℕ) (b t v w u : Growing) → rules ≡ joining o
    → pace ≡ turns_between o.pace → nodes ≡ o.nodes → who ≡ 1
    → Goes (λ s x. Writes s (comment_line (codes "join")) x) b t → Goes (λ s x. Does s (act.Boot who None) x) t v
    → Goes (Births rules pace 2 (nodes - 1)) v w → Goes (RunOut rules) w u → Goes (Join o) b u
join_goes o rules pace nodes who b t v w u by at all one says did births out = record {
  way = (
    growth_of t,
    growth_of v,
    growth_of w,
    says.way,
    subst (λ x. Does (growth_of t) (act.Boot x None) (growth_of v)) one did.way,
    subst (λ r. Births r (turns_between o.pace) 2 (o.nodes - 1) (growth_of v) (growth_of w)) by
        (subst (λ p. Births rules p 2 (o.nodes - 1) (growth_of v) (growth_of w)) at
        (subst (λ n. Births rules pace 2 (n - 1) (growth_of v) (growth_of w)) all births.way)),
    subst (λ r. RunOut r (growth_of w) (growth_of u)) by out.way,
  );
  kept = kept_trans b.recording.core t.recording.core u.recording.core says.kept
      (kept_trans t.recording.core v.recording.core u.recording.core did.kept
      (kept_trans v.recording.core w.recording.core u.recording.core births.kept out.kept));
}

-- the overlay settles
pub settle_goes : (o : GrowOptions) (rules : PhaseRules) (n k : ℕ) (phase : PhaseEnd) (b t v u : Growing)
    → rules ≡ settling o → n ≡ o.rounds → k ≡ o.broadcasts
    → Goes (λ s x. Writes s (comment_line (codes "settle")) x) b t → Goes (Rounds rules n) t v
    → Goes (λ s x. EndsPhase rules k s phase x) v u → Goes (λ s x. Settle o s phase x) b u
settle_goes o rules n k phase b t v u by many each says rounds ends = record {
  way = (
    growth_of t,
    growth_of v,
    says.way,
    subst (λ r. Rounds r o.rounds (growth_of t) (growth_of v)) by
        (subst (λ m. Rounds rules m (growth_of t) (growth_of v)) many rounds.way),
    subst (λ r. EndsPhase r o.broadcasts (growth_of v) phase (growth_of u)) by
        (subst (λ m. EndsPhase rules m (growth_of v) phase (growth_of u)) each ends.way),
  );
  kept = kept_trans b.recording.core t.recording.core u.recording.core says.kept
      (kept_trans t.recording.core v.recording.core u.recording.core rounds.kept ends.kept);
}

-- nodes crash
pub crash_goes : (o : GrowOptions) (settled : ℕ) (rules : PhaseRules) (k : ℕ) (nodes those : List ℕ) (phase : PhaseEnd)
    (b t v w u : Growing) → rules ≡ crashing o → k ≡ o.broadcasts → those ≡ nodes
    → Goes (λ s x. Writes s (comment_line (codes "crash")) x) b t → Goes (λ s x. AreToCrash o.crash settled s nodes
    x) t v
    → Goes (DoesEach act.Crash those) v w → Goes (λ s x. EndsPhase rules k s phase x) w u
    → Goes (λ s x. CrashNodes o settled s phase x) b u
crash_goes o settled rules k nodes those phase b t v w u by each same says are all ends = record {
  way = (
    nodes,
    growth_of t,
    growth_of v,
    growth_of w,
    says.way,
    are.way,
    subst (λ xs. DoesEach act.Crash xs (growth_of v) (growth_of w)) same all.way,
    subst (λ r. EndsPhase r o.broadcasts (growth_of w) phase (growth_of u)) by
        (subst (λ m. EndsPhase rules m (growth_of w) phase (growth_of u)) each ends.way),
  );
  kept = kept_trans b.recording.core t.recording.core u.recording.core says.kept
      (kept_trans t.recording.core v.recording.core u.recording.core are.kept
      (kept_trans v.recording.core w.recording.core u.recording.core all.kept ends.kept));
}

-- one crash report more
pub reports_goes : (rules : PhaseRules) (node crashed : ℕ) (b t v u : Growing) → AreFirst (growth_of b) node crashed
    → Goes (λ s x. Does s (act.CrashReport node crashed) x) b t → Goes (RunOut rules) t v → Goes (ReportCrashes
    rules) v u
    → Goes (ReportCrashes rules) b u
reports_goes rules node crashed b t v u first did out more = record {
  way = (suc more.way.0, (node, crashed, growth_of t, growth_of v, first, did.way, out.way, more.way.1));
  kept = kept_trans b.recording.core t.recording.core u.recording.core did.kept
      (kept_trans t.recording.core v.recording.core u.recording.core out.kept more.kept);
}

-- the overlay heals
pub heal_goes : (o : GrowOptions) (rules : PhaseRules) (n k : ℕ) (phase : PhaseEnd) (b t v w u : Growing)
    → rules ≡ healing o → n ≡ o.heal → k ≡ o.broadcasts
    → Goes (λ s x. Writes s (comment_line (codes "heal")) x) b t → Goes (AreTold o.detect rules) t v
    → Goes (Rounds rules n) v w → Goes (λ s x. EndsPhase rules k s phase x) w u
    → Goes (λ s x. Heal o s phase x) b u
heal_goes o rules n k phase b t v w u by many each says told rounds ends = record {
  way = (
    growth_of t,
    growth_of v,
    growth_of w,
    says.way,
    subst (λ r. AreTold o.detect r (growth_of t) (growth_of v)) by told.way,
    subst (λ r. Rounds r o.heal (growth_of v) (growth_of w)) by
        (subst (λ m. Rounds rules m (growth_of v) (growth_of w)) many rounds.way),
    subst (λ r. EndsPhase r o.broadcasts (growth_of w) phase (growth_of u)) by
        (subst (λ m. EndsPhase rules m (growth_of w) phase (growth_of u)) each ends.way),
  );
  kept = kept_trans b.recording.core t.recording.core u.recording.core says.kept
      (kept_trans t.recording.core v.recording.core u.recording.core told.kept
      (kept_trans v.recording.core w.recording.core u.recording.core rounds.kept ends.kept));
}
