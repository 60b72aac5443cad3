-- Rounds, broadcasts and phases have one outcome each.
use Rattle.std.proofs.Common.{arith, ◌<◌, ◌≤◌, ◌≡◌, ℕ, zero, suc, ◌+◌, ◌-◌, ◌*◌, ◌/◌, Bool, true, false, ◌||◌, List, []}
use Rattle.std.proofs.Common.{◌∷◌, ◌++◌, length, take, drop, Option, Some, None, refl, sym, ap, ap₂, subst, ◌∙◌, inl}
use Rattle.std.proofs.Common.{inr}
use Rattle.std.specs.Prelude.{slice_get, codes, MatchBool}
use Rattle.std.proofs.lemmas.Option.{same_Some}
use Rattle.ov_ids.specs.declared.id.MsgId.{MsgId}
use Rattle.ov_cert.specs.declared.cert.Cert.{Cert}
use Rattle.ov_cert.specs.declared.cert.Cert.TheVariants.{Linked, Split}
use Rattle.ov_even.proofs.EvenTest.Answering.{one_answer}
use Rattle.ov_even.specs.Answer.{IsAnswer}
use Rattle.ov_even.specs.Theorems.{AreAlike}
use Rattle.ov_peer.specs.PeerState.{PeerState}
use Rattle.ov_net.specs.declared.member.Member.TheVariants.{Live}
use Rattle.ov_net.proofs.Links.OneGraph.{links_one}
use Rattle.ov_net.specs.declared.journal_entry_and_changes.Entry.{Entry}
use Rattle.ov_grow_options.specs.declared.options.Crash.{Crash}
use Rattle.ov_grow_options.specs.declared.options.Crash.TheVariants.{Share, Cut}
use Rattle.ov_grow_options.specs.declared.options.GrowOptions.{GrowOptions}
use Rattle.ov_script.specs.declared.recordable_event.Act.{Act}
use Rattle.ov_script.specs.declared.recordable_event.Act.TheVariants as act
use Rattle.ov_script.specs.WrittenLines.{analysis_line, comment_line}
use Rattle.ov_grow.specs.Choices.{IsRandomOrder}
use Rattle.ov_grow.specs.Growth.{Growth, AreLive, Chooses, Does, IsFirstOf, Writes}
use Rattle.ov_grow.specs.Turns.{RunOut, TurnsUpTo}
use Rattle.ov_grow.specs.Rounds.{AreLiveInOrder, DoesEach, Round, Rounds}
use Rattle.ov_grow.specs.Broadcasts.{AtOnce, BroadcastBy, Broadcasts, BroadcastsBegin, Fire, FireAt, FireAtEach}
use Rattle.ov_grow.specs.Broadcasts.{FireTimes, FiresIfItRuns, IsSender, OneByOne, StandsInFor, TimersFire}
use Rattle.ov_grow.specs.Phases.{AreFirst, AreToCrash, Births, CrashNodes, EndsPhase, Heal, IsAnalysedAt, IsCutAt, Join}
use Rattle.ov_grow.specs.Phases.{AreTold, IsCrashedNeighbour, ReportCrashes, ReportTimes, Settle, crashing, cut_of}
use Rattle.ov_grow.specs.Phases.{deliveries_in, healing, joining, settling}
use Rattle.ov_grow.specs.Phases.{turns_between}
use Rattle.ov_net.specs.World.{WorldState}
use Rattle.ov_grow.specs.Growing.{GrowsFrom, OneGrowth, beginning}
use Rattle.ov_grow.specs.declared.phase_moment_and_deliveries.PhaseEnd.{PhaseEnd}
use Rattle.ov_grow.specs.declared.phase_rules.PhaseRules.{PhaseRules}
use Rattle.ov_grow.proofs.OneGrowth.{one_act, one_choice, one_live, one_order, one_run_out, one_turns, one_write}

-- what follows the act for the first of these nodes
pub each_rest : (what : ℕ → Act) (node : ℕ) (more : List ℕ) (s t u : Growth) → Does s (what node) t
    → DoesEach what (node ∷ more) s u → DoesEach what more t u
each_rest what node more s t u did (x, also, others) =
    subst (λ g. DoesEach what more g u) (one_act s x t (what node) also did) others

pub one_each : (what : ℕ → Act) (nodes : List ℕ) (s u v : Growth) → DoesEach what nodes s u
    → DoesEach what nodes s v → u ≡ v
one_each what [] s u v a b = a ∙ sym b
one_each what (node ∷ more) s u v (t, did, rest) other =
    one_each what more t u v rest (each_rest what node more s t v did other)

pub one_live_order : (s u v : Growth) (order also : List ℕ) → AreLiveInOrder s order u → AreLiveInOrder s also v
    → (order ≡ also) × (u ≡ v)
one_live_order s u v order also (live, after, are, orders, is) (those, left, lives, puts, same) =
    let one = one_order live order also s.choices after left orders
    (subst (λ xs. IsRandomOrder xs also s.choices left) (one_live s those live lives are) puts) in
    (one.0, is ∙ (ap (λ c. record s { choices = c }) one.1 ∙ sym same))

-- the nodes that live start their shuffles in the one order
pub round_shuffles : (rules : PhaseRules) (order : List ℕ) (s t u : Growth) → AreLiveInOrder s order t → Round rules s u
    → (v : Growth) × DoesEach act.Shuffle order t v × RunOut rules v u
round_shuffles rules order s t u lives (also, x, v, those, all, ends) =
    let one = one_live_order s x t also order those lives in (
      v,
      subst (λ g. DoesEach act.Shuffle order g v) one.1 (subst (λ xs. DoesEach act.Shuffle xs x v) one.0 all),
      ends,
    )

-- after the shuffles packets run out
pub round_rest : (rules : PhaseRules) (order : List ℕ) (s t v u : Growth) → AreLiveInOrder s order t
    → DoesEach act.Shuffle order t v → Round rules s u → RunOut rules v u
round_rest rules order s t v u lives each round =
    let (w, all, ends) = round_shuffles rules order s t u lives round in
    subst (λ g. RunOut rules g u) (one_each act.Shuffle order t w v all each) ends

pub one_round : (rules : PhaseRules) (s u v : Growth) → Round rules s u → Round rules s v → u ≡ v
one_round rules s u v (order, t, w, lives, each, out) other =
    one_run_out rules w u v out (round_rest rules order s t w v lives each other)

-- what follows a round
pub rounds_rest : (rules : PhaseRules) (n : ℕ) (s t u : Growth) → Round rules s t → Rounds rules (suc n) s u
    → Rounds rules n t u
rounds_rest rules n s t u round (x, also, others) =
    subst (λ g. Rounds rules n g u) (one_round rules s x t also round) others

pub one_rounds : (rules : PhaseRules) (n : ℕ) (s u v : Growth) → Rounds rules n s u → Rounds rules n s v → u ≡ v
one_rounds rules zero s u v a b = a ∙ sym b
one_rounds rules (suc n) s u v (t, round, more) other =
    one_rounds rules n t u v more (rounds_rest rules n s t v round other)

-- a node has one state
one_node : (p q : PeerState) → Some (Live p) ≡ Some (Live q) → p ≡ q
one_node p q same = cc

one_broadcast : (node : ℕ) (s u v : Growth) (id also : MsgId) → BroadcastBy node s id u → BroadcastBy node s also v
    → (id ≡ also) × (u ≡ v)
one_broadcast node s u v id also (p, lives, is, did) (q, live, same, does) = (
  is ∙ (ap (λ m. record { origin = node; seq = m.tree.made }) (one_node p q (sym lives ∙ live)) ∙ sym same),
  one_act s u v (act.Broadcast node) did does,
)

-- the smallest that has a property is one
one_first_of : (P : ℕ → Type 0) (ids : List ℕ) (a b : ℕ) → IsFirstOf P ids a → IsFirstOf P ids b → a ≡ b
one_first_of P ids a b one other =
    let below : a ≤ b = one.least b other.has other.holds in
    let above : b ≤ a = other.least a one.has one.holds in
    omega (arith, below, above)

one_stand_in : (n : ℕ) (live : List ℕ) (a b : ℕ) → StandsInFor n live a → StandsInFor n live b → a ≡ b
one_stand_in n live a b (inl one) (inl other) = one_first_of (λ x. n ≤ x) live a b one other
one_stand_in n live a b (inr (none, one)) (inr (empty, other)) = one_first_of (λ x. 0 ≤ x) live a b one other
one_stand_in n live a b (inl one) (inr (none, other)) =
    absurd (let below : a < n = none a one.has in let above : n ≤ a = one.holds in omega (arith, below, above))
one_stand_in n live a b (inr (none, other)) (inl one) =
    absurd (let below : b < n = none b one.has in let above : n ≤ b = one.holds in omega (arith, below, above))

pub one_sender : (sender : Option ℕ) (nodes : List ℕ) (node other : ℕ) (s u v : Growth) → IsSender sender nodes s node u
    → IsSender sender nodes s other v → (node ≡ other) × (u ≡ v)
one_sender None nodes node other s u v (place, chooses, at) (spot, chose, there) =
    let choice = one_choice (length nodes) place spot s u v chooses chose in
    (same_Some node other (sym at ∙ (ap (λ i. slice_get nodes i) choice.0 ∙ there)), choice.1)
one_sender (Some n) nodes node other s u v (stands, is) (stand, same) =
    (one_stand_in n nodes node other stands stand, is ∙ sym same)

-- this node broadcasts first, and then the others
pub begin_follows : (sender : Option ℕ) (nodes : List ℕ) (n node : ℕ) (ids : List MsgId) (s t u : Growth)
    → IsSender sender nodes s node t → BroadcastsBegin sender nodes (suc n) s ids u
    → (id : MsgId) × (later : List MsgId) × (v : Growth)
    × BroadcastBy node t id v × (ids ≡ id ∷ later) × BroadcastsBegin sender nodes n v later u
begin_follows sender nodes n node ids s t u whose (other, id, later, x, v, also, by, is, more) =
    let who = one_sender sender nodes other node s x t also whose in
    (id, later, v, subst (λ a. BroadcastBy a t id v) who.0 (subst (λ g. BroadcastBy other g id v) who.1 by), is, more)

-- what follows the first of these broadcasts
pub begin_rest : (sender : Option ℕ) (nodes : List ℕ) (n node : ℕ) (id : MsgId) (ids : List MsgId) (s t v u : Growth)
    → IsSender sender nodes s node t → BroadcastBy node t id v → BroadcastsBegin sender nodes (suc n) s ids u
    → (later : List MsgId) × (ids ≡ id ∷ later) × BroadcastsBegin sender nodes n v later u
begin_rest sender nodes n node id ids s t v u whose by begin =
    let (also, later, w, bys, is, more) = begin_follows sender nodes n node ids s t u whose begin in
    let one = one_broadcast node t w v also id bys by in
    (later, is ∙ ap (λ m. m ∷ later) one.0, subst (λ g. BroadcastsBegin sender nodes n g later u) one.1 more)

one_beginning : (sender : Option ℕ) (nodes : List ℕ) (n : ℕ) (s u v : Growth) (ids also : List MsgId)
    → BroadcastsBegin sender nodes n s ids u → BroadcastsBegin sender nodes n s also v → (ids ≡ also) × (u ≡ v)
one_beginning sender nodes zero s u v ids also (none, is) (empty, same) = (none ∙ sym empty, is ∙ sym same)
one_beginning sender nodes (suc n) s u v ids also (node, id, later, t, w, whose, by, is, more) other =
    let (rest, same, others) = begin_rest sender nodes n node id also s t w v whose by other in
    let last = one_beginning sender nodes n w u v later rest more others in
    (is ∙ (ap (λ xs. id ∷ xs) last.0 ∙ sym same), last.1)

one_timer : (node : ℕ) (id : MsgId) (s u v : Growth) (a b : Bool) → FiresIfItRuns node id s a u
    → FiresIfItRuns node id s b v
    → (a ≡ b) × (u ≡ v)
one_timer node id s u v a b (inl (runs, did, holds)) (inl (run, does, also)) =
    (holds ∙ sym also, one_act s u v (act.Timer node id) did does)
one_timer node id s u v a b (inl (runs, did, holds)) (inr (not_runs, same, fails)) = absurd (not_runs runs)
one_timer node id s u v a b (inr (not_runs, same, fails)) (inl (runs, did, holds)) = absurd (not_runs runs)
one_timer node id s u v a b (inr (not_runs, same, fails)) (inr (not_run, is, none)) = (fails ∙ sym none, same ∙ sym is)

-- what follows the first of these messages
pub fire_at_rest : (node : ℕ) (id : MsgId) (ids : List MsgId) (first b : Bool) (s t u : Growth)
    → FiresIfItRuns node id s first t → FireAt node (id ∷ ids) s b u
    → (later : Bool) × (b ≡ (first || later)) × FireAt node ids t later u
fire_at_rest node id ids first b s t u fires (one, later, x, fire, more, is) =
    let head = one_timer node id s x t one first fire fires in
    (later, is ∙ ap (λ p. p || later) head.0, subst (λ g. FireAt node ids g later u) head.1 more)

one_fire_at : (node : ℕ) (ids : List MsgId) (s u v : Growth) (a b : Bool) → FireAt node ids s a u
    → FireAt node ids s b v
    → (a ≡ b) × (u ≡ v)
one_fire_at node [] s u v a b (is, fails) (same, none) = (fails ∙ sym none, is ∙ sym same)
one_fire_at node (id ∷ ids) s u v a b (first, others, t, fires, more, is) other =
    let (later, same, mores) = fire_at_rest node id ids first b s t v fires other in
    let tail = one_fire_at node ids t u v others later more mores in
    (is ∙ (ap (λ q. first || q) tail.0 ∙ sym same), tail.1)

-- what follows the first of these nodes
pub fire_each_rest : (node : ℕ) (nodes : List ℕ) (ids : List MsgId) (first b : Bool) (s t u : Growth)
    → FireAt node ids s first t → FireAtEach (node ∷ nodes) ids s b u
    → (later : Bool) × (b ≡ (first || later)) × FireAtEach nodes ids t later u
fire_each_rest node nodes ids first b s t u fires (one, later, x, fire, more, is) =
    let head = one_fire_at node ids s x t one first fire fires in
    (later, is ∙ ap (λ p. p || later) head.0, subst (λ g. FireAtEach nodes ids g later u) head.1 more)

one_fire_each : (nodes : List ℕ) (ids : List MsgId) (s u v : Growth) (a b : Bool) → FireAtEach nodes ids s a u
    → FireAtEach nodes ids s b v → (a ≡ b) × (u ≡ v)
one_fire_each [] ids s u v a b (is, fails) (same, none) = (fails ∙ sym none, is ∙ sym same)
one_fire_each (node ∷ nodes) ids s u v a b (first, others, t, fires, more, is) other =
    let (later, same, mores) = fire_each_rest node nodes ids first b s t v fires other in
    let tail = one_fire_each nodes ids t u v others later more mores in
    (is ∙ (ap (λ q. first || q) tail.0 ∙ sym same), tail.1)

-- timers fire at these live nodes
pub fire_follows : (ids : List MsgId) (live : List ℕ) (s u : Growth) (fired : Bool) → AreLive s live
    → Fire ids s fired u → FireAtEach live ids s fired u
fire_follows ids live s u fired are (those, lives, each) =
    subst (λ xs. FireAtEach xs ids s fired u) (one_live s those live lives are) each

one_fire : (ids : List MsgId) (s u v : Growth) (a b : Bool) → Fire ids s a u → Fire ids s b v → (a ≡ b) × (u ≡ v)
one_fire ids s u v a b (live, are, each) other =
    one_fire_each live ids s u v a b each (fire_follows ids live s v b are other)

-- after a timer has fired packets run out
pub fired_follows : (rules : PhaseRules) (ids : List MsgId) (s t u : Growth) → Fire ids s true t
    → TimersFire rules ids s u → (v : Growth) × RunOut rules t v × TimersFire rules ids v u
fired_follows rules ids s t u fires (zero, none) =
    absurd (let fails = (one_fire ids s t u true false fires none).0 in cc)
fired_follows rules ids s t u fires (suc n, (x, v, fire, out, more)) =
    (v, subst (λ g. RunOut rules g v) (one_fire ids s x t true true fire fires).1 out, (n, more))

-- what follows when packets have run out
pub timers_rest : (rules : PhaseRules) (ids : List MsgId) (s t v u : Growth) → Fire ids s true t → RunOut rules t v
    → TimersFire rules ids s u → TimersFire rules ids v u
timers_rest rules ids s t v u fires out timers =
    let (w, ends, more) = fired_follows rules ids s t u fires timers in
    subst (λ g. TimersFire rules ids g u) (one_run_out rules t w v ends out) more

one_times : (rules : PhaseRules) (ids : List MsgId) (n : ℕ) (s u v : Growth) → FireTimes rules ids n s u
    → TimersFire rules ids s v → u ≡ v
one_times rules ids zero s u v a (zero, b) = (one_fire ids s u v false false a b).1
one_times rules ids zero s u v a (suc m, (x, y, fires, out, more)) =
    absurd (let fails = (one_fire ids s u x false true a fires).0 in cc)
one_times rules ids (suc n) s u v (t, w, fires, out, more) other =
    one_times rules ids n w u v more (timers_rest rules ids s t w v fires out other)

-- broadcasts begin at these live nodes
pub broadcasts_follow : (rules : PhaseRules) (n : ℕ) (live : List ℕ) (ids : List MsgId) (s u : Growth) → AreLive s live
    → AtOnce rules n s ids u
    → (t : Growth) × (v : Growth)
    × BroadcastsBegin rules.sender live n s ids t × RunOut rules t v × TimersFire rules ids v u
broadcasts_follow rules n live ids s u are (those, t, v, lives, begins, out, fires) = (
  t,
  v,
  subst (λ xs. BroadcastsBegin rules.sender xs n s ids t) (one_live s those live lives are) begins,
  out,
  fires,
)

-- when they have begun packets run out
pub begun_follows : (rules : PhaseRules) (n : ℕ) (live : List ℕ) (ids also : List MsgId) (s t u : Growth)
    → AreLive s live → BroadcastsBegin rules.sender live n s ids t → AtOnce rules n s also u
    → (ids ≡ also) × ((v : Growth) × RunOut rules t v × TimersFire rules ids v u)
begun_follows rules n live ids also s t u are begin broadcasts =
    let (x, v, begins, out, fires) = broadcasts_follow rules n live also s u are broadcasts in
    let one = one_beginning rules.sender live n s x t also ids begins begin in
    (sym one.0, (v, subst (λ g. RunOut rules g v) one.1 out, subst (λ ms. TimersFire rules ms v u) one.0 fires))

-- when packets have run out timers fire
pub broadcasts_rest : (rules : PhaseRules) (n : ℕ) (live : List ℕ) (ids also : List MsgId) (s t v u : Growth)
    → AreLive s live → BroadcastsBegin rules.sender live n s ids t → RunOut rules t v → AtOnce rules n s also u
    → (ids ≡ also) × TimersFire rules ids v u
broadcasts_rest rules n live ids also s t v u are begin out broadcasts =
    let (same, (w, ends, fires)) = begun_follows rules n live ids also s t u are begin broadcasts in
    (same, subst (λ g. TimersFire rules ids g u) (one_run_out rules t w v ends out) fires)

one_at_once : (rules : PhaseRules) (n : ℕ) (s u v : Growth) (ids also : List MsgId) → AtOnce rules n s ids u
    → AtOnce rules n s also v → (ids ≡ also) × (u ≡ v)
one_at_once rules n s u v ids also (live, t, w, are, begin, out, (k, times)) other =
    let (same, fires) = broadcasts_rest rules n live ids also s t w v are begin out other in
    (same, one_times rules ids k w u v times fires)

-- what follows the first of broadcasts that are made one by one
pub one_by_one_rest : (rules : PhaseRules) (n : ℕ) (first ids : List MsgId) (s t u : Growth) → AtOnce rules 1 s first t
    → OneByOne rules (suc n) s ids u → (later : List MsgId) × (ids ≡ first ++ later) × OneByOne rules n t later u
one_by_one_rest rules n first ids s t u one (head, later, x, also, is, more) =
    let same = one_at_once rules 1 s x t head first also one in
    (later, is ∙ ap (λ xs. xs ++ later) same.0, subst (λ g. OneByOne rules n g later u) same.1 more)

one_one_by_one : (rules : PhaseRules) (n : ℕ) (s u v : Growth) (ids also : List MsgId) → OneByOne rules n s ids u
    → OneByOne rules n s also v → (ids ≡ also) × (u ≡ v)
one_one_by_one rules zero s u v ids also (none, is) (empty, same) = (none ∙ sym empty, is ∙ sym same)
one_one_by_one rules (suc n) s u v ids also (first, later, t, one, is, more) other =
    let (rest, same, others) = one_by_one_rest rules n first also s t v one other in
    let last = one_one_by_one rules n t u v later rest more others in
    (is ∙ (ap (λ xs. first ++ xs) last.0 ∙ sym same), last.1)

one_way_made : (sequential : Bool) (rules : PhaseRules) (n : ℕ) (s u v : Growth) (ids also : List MsgId)
    → MatchBool sequential (OneByOne rules n s ids u) (AtOnce rules n s ids u)
    → MatchBool sequential (OneByOne rules n s also v) (AtOnce rules n s also v) → (ids ≡ also) × (u ≡ v)
one_way_made true rules n s u v ids also a b = one_one_by_one rules n s u v ids also a b
one_way_made false rules n s u v ids also a b = one_at_once rules n s u v ids also a b

pub one_broadcasts : (rules : PhaseRules) (n : ℕ) (s u v : Growth) (ids also : List MsgId)
    → Broadcasts rules n s ids u → Broadcasts rules n s also v → (ids ≡ also) × (u ≡ v)
one_broadcasts rules n s u v ids also a b = one_way_made rules.sequential rules n s u v ids also a b

-- two certificates that agree name one cut
one_cut_of : (c d : Cert) → AreAlike c d → cut_of c ≡ cut_of d
one_cut_of (Linked k) (Linked l) same = refl
one_cut_of (Split c) (Split d) same = same.cut
one_cut_of (Linked k) (Split d) same = absurd same
one_cut_of (Split c) (Linked l) same = absurd same

one_cut : (journal : List Entry) (m : ℕ) (cut also : List ℕ) → IsCutAt journal m cut → IsCutAt journal m also
    → cut ≡ also
one_cut journal m cut also (g, c, links, answer, is) (h, d, other, another, same) =
    let graph : h ≡ g = links_one journal m h g other links in
    is ∙ (one_cut_of c d (one_answer g g.nodes c d links.graph answer
    (subst (λ x. IsAnswer x x.nodes d) graph another)) ∙ sym same)

one_to_crash : (crash : Crash) (m : ℕ) (s u v : Growth) (nodes also : List ℕ) → AreToCrash crash m s nodes u
    → AreToCrash crash m s also v → (nodes ≡ also) × (u ≡ v)
one_to_crash (Share share) m s u v nodes also (order, lives, is) (other, live, same) =
    let one = one_live_order s u v order other lives live in
    (is ∙ (ap (λ xs. take (length xs * share / 100) xs) one.0 ∙ sym same), one.1)
one_to_crash Cut m s u v nodes also (cut, is) (other, same) =
    (one_cut s.world.journal m nodes also cut other, is ∙ sym same)

one_analysis : (moment also : ℕ) (s u v : Growth) → IsAnalysedAt moment s u → IsAnalysedAt also s v
    → (moment ≡ also) × (u ≡ v)
one_analysis moment also s u v (t, did, live, is, writes) (x, does, lives, same, wrote) =
    let one : x ≡ t = one_act s x t act.Snapshot does did in
    let at : moment ≡ also = is ∙ (ap (λ g. length g.world.journal) (sym one) ∙ sym same) in (
      at,
      one_write t u v (analysis_line moment) writes
          (subst (λ g. Writes g (analysis_line moment) v) one (subst (λ m. Writes x (analysis_line m) v) (sym at)
          wrote)),
    )

same_phase : (p q : PhaseEnd) → p.moment ≡ q.moment → p.deliveries ≡ q.deliveries → p ≡ q
same_phase p q moment deliveries = ap₂ (λ m d. record { moment = m; deliveries = d }) moment deliveries

-- after the analysis there are broadcasts
pub ending_rest : (rules : PhaseRules) (n m : ℕ) (s t u : Growth) (q : PhaseEnd) → IsAnalysedAt m s t
    → EndsPhase rules n s q u → (m ≡ q.moment) × ((ids : List MsgId) × Broadcasts rules n t ids u)
ending_rest rules n m s t u q analysed (x, also, (ids, others), counts) =
    let first = one_analysis m q.moment s t x analysed also in
    (first.0, (ids, subst (λ g. Broadcasts rules n g ids u) (sym first.1) others))

one_ending : (rules : PhaseRules) (n : ℕ) (s u v : Growth) (p q : PhaseEnd) → EndsPhase rules n s p u
    → EndsPhase rules n s q v
    → (p ≡ q) × (u ≡ v)
one_ending rules n s u v p q (t, analysed, (ids, broadcasts), count) (x, also, (others, made), counts) =
    let first = one_analysis p.moment q.moment s t x analysed also in
    let last = one_broadcasts rules n t u v ids others broadcasts
    (subst (λ g. Broadcasts rules n g others v) (sym first.1) made) in (
      same_phase p q first.0 (count ∙ (ap₂ (λ m g. deliveries_in (drop m g.world.journal)) first.0 last.1
          ∙ sym counts)),
      last.1,
    )

-- after the turns before a birth, the node is born with the chosen contact, and then the next ones are
pub birth_follows : (rules : PhaseRules) (pace id n place : ℕ) (s t v u : Growth) → TurnsUpTo rules pace s t
    → Chooses (id - 1) t place v → Births rules pace id (suc n) s u
    → (w : Growth) × Does v (act.Boot id (Some (1 + place))) w × Births rules pace (id + 1) n w u
birth_follows rules pace id n place s t v u turns chooses (spot, x, y, w, also, chose, does, others) =
    let first : x ≡ t = one_turns rules pace s x t also turns in
    let then = one_choice (id - 1) spot place t y v (subst (λ g. Chooses (id - 1) g spot y) first chose) chooses in (
      w,
      subst (λ g. Does g (act.Boot id (Some (1 + place))) w) then.1
          (subst (λ i. Does y (act.Boot id (Some (1 + i))) w) then.0 does),
      others,
    )

-- what follows a birth
pub births_rest : (rules : PhaseRules) (pace id n place : ℕ) (s t v w u : Growth) → TurnsUpTo rules pace s t
    → Chooses (id - 1) t place v → Does v (act.Boot id (Some (1 + place))) w → Births rules pace id (suc n) s u
    → Births rules pace (id + 1) n w u
births_rest rules pace id n place s t v w u turns chooses did births =
    let (x, also, others) = birth_follows rules pace id n place s t v u turns chooses births in
    subst (λ g. Births rules pace (id + 1) n g u) (one_act v x w (act.Boot id (Some (1 + place))) also did) others

one_birth : (rules : PhaseRules) (pace id n : ℕ) (s u v : Growth) → Births rules pace id n s u
    → Births rules pace id n s v
    → u ≡ v
one_birth rules pace id zero s u v a b = a ∙ sym b
one_birth rules pace id (suc n) s u v (place, t, w, z, turns, chooses, did, more) other =
    one_birth rules pace (id + 1) n z u v more
    (births_rest rules pace id n place s t w z v turns chooses did other)

-- after the comment the first node is born
pub join_follows : (o : GrowOptions) (s t u : Growth) → Writes s (comment_line (codes "join")) t → Join o s u
    → (v : Growth) × (w : Growth) × Does t (act.Boot 1 None) v
    × Births (joining o) (turns_between o.pace) 2 (o.nodes - 1) v w × RunOut (joining o) w u
join_follows o s t u says (x, v, w, said, did, births, out) = (
  v,
  w,
  subst (λ g. Does g (act.Boot 1 None) v) (one_write s x t (comment_line (codes "join")) said says) did,
  births,
  out,
)

-- after the first birth the other nodes are born, and packets run out
pub births_follow : (o : GrowOptions) (s t v u : Growth) → Writes s (comment_line (codes "join")) t
    → Does t (act.Boot 1 None) v → Join o s u
    → (w : Growth) × Births (joining o) (turns_between o.pace) 2 (o.nodes - 1) v w × RunOut (joining o) w u
births_follow o s t v u says did join =
    let (x, w, also, births, out) = join_follows o s t u says join in
    let first : x ≡ v = one_act t x v (act.Boot 1 None) also did in
    (w, subst (λ g. Births (joining o) (turns_between o.pace) 2 (o.nodes - 1) g w) first births, out)

-- after all births packets run out
pub join_rest : (o : GrowOptions) (s t v w u : Growth) → Writes s (comment_line (codes "join")) t
    → Does t (act.Boot 1 None) v → Births (joining o) (turns_between o.pace) 2 (o.nodes - 1) v w → Join o s u
    → RunOut (joining o) w u
join_rest o s t v w u says did births join =
    let (x, also, out) = births_follow o s t v u says did join in
    subst (λ g. RunOut (joining o) g u)
    (one_birth (joining o) (turns_between o.pace) 2 (o.nodes - 1) v x w also births) out

pub one_join : (o : GrowOptions) (s u v : Growth) → Join o s u → Join o s v → u ≡ v
one_join o s u v (t, w, z, says, did, births, out) other =
    one_run_out (joining o) z u v out (join_rest o s t w z v says did births other)

-- after the comment there are rounds
pub settle_follows : (o : GrowOptions) (s t u : Growth) (q : PhaseEnd) → Writes s (comment_line (codes "settle")) t
    → Settle o s q u
    → (v : Growth) × Rounds (settling o) o.rounds t v × EndsPhase (settling o) o.broadcasts v q u
settle_follows o s t u q says (x, v, said, rounds, ends) =
    let first = one_write s x t (comment_line (codes "settle")) said says in
    (v, subst (λ g. Rounds (settling o) o.rounds g v) first rounds, ends)

-- after the rounds the phase ends
pub settle_rest : (o : GrowOptions) (s t v u : Growth) (q : PhaseEnd) → Writes s (comment_line (codes "settle")) t
    → Rounds (settling o) o.rounds t v → Settle o s q u → EndsPhase (settling o) o.broadcasts v q u
settle_rest o s t v u q says rounds settle =
    let (w, also, ends) = settle_follows o s t u q says settle in
    subst (λ g. EndsPhase (settling o) o.broadcasts g q u)
    (one_rounds (settling o) o.rounds t w v also rounds) ends

pub one_settling : (o : GrowOptions) (s u v : Growth) (p q : PhaseEnd) → Settle o s p u → Settle o s q v
    → (p ≡ q) × (u ≡ v)
one_settling o s u v p q (t, w, says, rounds, ends) other =
    one_ending (settling o) o.broadcasts w u v p q ends (settle_rest o s t w v q says rounds other)

-- when it is known which nodes are to crash, each of them does
pub crash_follows : (o : GrowOptions) (m : ℕ) (nodes : List ℕ) (s t v u : Growth) (q : PhaseEnd)
    → Writes s (comment_line (codes "crash")) t → AreToCrash o.crash m t nodes v → CrashNodes o m s q u
    → (w : Growth) × DoesEach act.Crash nodes v w × EndsPhase (crashing o) o.broadcasts w q u
crash_follows o m nodes s t v u q says are (those, x, y, w, said, also, each, ends) =
    let first = one_write s x t (comment_line (codes "crash")) said says in
    let one = one_to_crash o.crash m t y v those nodes (subst (λ g. AreToCrash o.crash m g those y) first also) are in
    (w, subst (λ g. DoesEach act.Crash nodes g w) one.1 (subst (λ xs. DoesEach act.Crash xs y w) one.0 each), ends)

-- after the crashes the phase ends
pub crash_rest : (o : GrowOptions) (m : ℕ) (nodes : List ℕ) (s t v w u : Growth) (q : PhaseEnd)
    → Writes s (comment_line (codes "crash")) t → AreToCrash o.crash m t nodes v → DoesEach act.Crash nodes v w
    → CrashNodes o m s q u → EndsPhase (crashing o) o.broadcasts w q u
crash_rest o m nodes s t v w u q says are each crash =
    let (x, all, ends) = crash_follows o m nodes s t v u q says are crash in
    subst (λ g. EndsPhase (crashing o) o.broadcasts g q u) (one_each act.Crash nodes v x w all each) ends

pub one_crash : (o : GrowOptions) (m : ℕ) (s u v : Growth) (p q : PhaseEnd) → CrashNodes o m s p u
    → CrashNodes o m s q v
    → (p ≡ q) × (u ≡ v)
one_crash o m s u v p q (nodes, t, w, z, says, are, each, ends) other =
    one_ending (crashing o) o.broadcasts z u v p q ends (crash_rest o m nodes s t w z v q says are each other)

-- whom the next report is for, and of whom
one_first : (s : Growth) (node crashed other gone : ℕ) → AreFirst s node crashed → AreFirst s other gone
    → (node ≡ other) × (crashed ≡ gone)
one_first s node crashed other gone a b =
    let below : node ≤ other = a.first_node other gone b.has in
    let above : other ≤ node = b.first_node node crashed a.has in
    let same : node ≡ other = omega (arith, below, above) in
    let low : crashed ≤ gone = a.first_crashed gone (subst (λ n. IsCrashedNeighbour s n gone) (sym same) b.has) in
    let high : gone ≤ crashed = b.first_crashed crashed (subst (λ n. IsCrashedNeighbour s n crashed) same a.has) in
    (same, omega (arith, low, high))

-- the next report is the one for this node, and then packets run out
pub reports_follow : (rules : PhaseRules) (node crashed : ℕ) (s u : Growth) → AreFirst s node crashed
    → ReportCrashes rules s u
    → (t : Growth) × (v : Growth)
    × Does s (act.CrashReport node crashed) t × RunOut rules t v × ReportCrashes rules v u
reports_follow rules node crashed s u first (zero, (none, same)) = absurd (none node crashed first.has)
reports_follow rules node crashed s u first (suc n, (other, gone, t, v, is, did, out, more)) =
    let who = one_first s other gone node crashed is first in (
      t,
      v,
      subst (λ b. Does s (act.CrashReport node b) t) who.1
          (subst (λ a. Does s (act.CrashReport a gone) t) who.0 did),
      out,
      (n, more),
    )

-- after the report packets run out
pub report_follows : (rules : PhaseRules) (node crashed : ℕ) (s t u : Growth) → AreFirst s node crashed
    → Does s (act.CrashReport node crashed) t → ReportCrashes rules s u
    → (v : Growth) × RunOut rules t v × ReportCrashes rules v u
report_follows rules node crashed s t u first did reports =
    let (x, v, does, out, more) = reports_follow rules node crashed s u first reports in
    (v, subst (λ g. RunOut rules g v) (one_act s x t (act.CrashReport node crashed) does did) out, more)

-- what follows when packets have run out
pub reports_rest : (rules : PhaseRules) (node crashed : ℕ) (s t v u : Growth) → AreFirst s node crashed
    → Does s (act.CrashReport node crashed) t → RunOut rules t v → ReportCrashes rules s u → ReportCrashes rules v u
reports_rest rules node crashed s t v u first did out reports =
    let (w, ends, more) = report_follows rules node crashed s t u first did reports in
    subst (λ g. ReportCrashes rules g u) (one_run_out rules t w v ends out) more

one_reports : (rules : PhaseRules) (n : ℕ) (s u v : Growth) → ReportTimes rules n s u → ReportCrashes rules s v → u ≡ v
one_reports rules zero s u v a (zero, b) = a.1 ∙ sym b.1
one_reports rules zero s u v a (suc m, (node, crashed, x, y, first, did, out, more)) =
    absurd (a.0 node crashed first.has)
one_reports rules (suc n) s u v (node, crashed, t, w, first, did, out, more) other =
    one_reports rules n w u v more (reports_rest rules node crashed s t w v first did out other)

one_told_all : (detect : Bool) (rules : PhaseRules) (s u v : Growth) → AreTold detect rules s u
    → AreTold detect rules s v → u ≡ v
one_told_all true rules s u v same also = same ∙ sym also
one_told_all false rules s u v (n, reports) other = one_reports rules n s u v reports other

-- after the comment nodes are told of crashes
pub heal_follows : (o : GrowOptions) (s t u : Growth) (q : PhaseEnd) → Writes s (comment_line (codes "heal")) t
    → Heal o s q u
    → (v : Growth) × (w : Growth)
    × AreTold o.detect (healing o) t v × Rounds (healing o) o.heal v w × EndsPhase (healing o) o.broadcasts w q u
heal_follows o s t u q says (x, v, w, said, told, rounds, ends) =
    let first = one_write s x t (comment_line (codes "heal")) said says in
    (v, w, subst (λ g. AreTold o.detect (healing o) g v) first told, rounds, ends)

-- after that there are rounds
pub reported_follows : (o : GrowOptions) (s t v u : Growth) (q : PhaseEnd) → Writes s (comment_line (codes "heal")) t
    → AreTold o.detect (healing o) t v → Heal o s q u
    → (w : Growth) × Rounds (healing o) o.heal v w × EndsPhase (healing o) o.broadcasts w q u
reported_follows o s t v u q says told heal =
    let (x, w, also, rounds, ends) = heal_follows o s t u q says heal in
    let one : v ≡ x = one_told_all o.detect (healing o) t v x told also in
    (w, subst (λ g. Rounds (healing o) o.heal g w) (sym one) rounds, ends)

-- after the rounds the phase ends
pub heal_rest : (o : GrowOptions) (s t v w u : Growth) (q : PhaseEnd) → Writes s (comment_line (codes "heal")) t
    → AreTold o.detect (healing o) t v → Rounds (healing o) o.heal v w → Heal o s q u
    → EndsPhase (healing o) o.broadcasts w q u
heal_rest o s t v w u q says told rounds heal =
    let (x, also, ends) = reported_follows o s t v u q says told heal in
    subst (λ g. EndsPhase (healing o) o.broadcasts g q u) (one_rounds (healing o) o.heal v x w also rounds) ends

pub one_healing : (o : GrowOptions) (s u v : Growth) (p q : PhaseEnd) → Heal o s p u → Heal o s q v → (p ≡ q) × (u ≡ v)
one_healing o s u v p q (t, w, k, says, reports, rounds, ends) other =
    one_ending (healing o) o.broadcasts k u v p q ends (heal_rest o s t w k v q says reports rounds other)

-- two overlays that are grown from where b stands are the same, and growing stands at the same places after each phase
pub record AreOne (b : Growth) (o : GrowOptions) (text other : List ℕ) (world beside : WorldState)
    (settled crashed healed settles crashes heals : PhaseEnd) (g : GrowsFrom b o text world settled crashed healed)
    (h : GrowsFrom b o other beside settles crashes heals) : Type 0
  where
    pub texts : text ≡ other
    pub worlds : world ≡ beside
    pub settle : settled ≡ settles
    pub crash : crashed ≡ crashes
    pub heal : healed ≡ heals
    pub at_settle : g.t ≡ h.t
    pub at_crash : g.v ≡ h.v
    pub at_heal : g.u ≡ h.u

pub one_from : (b : Growth) (o : GrowOptions) (text other : List ℕ) (world beside : WorldState)
    (settled crashed healed settles crashes heals : PhaseEnd) (g : GrowsFrom b o text world settled crashed healed)
    (h : GrowsFrom b o other beside settles crashes heals)
    → AreOne b o text other world beside settled crashed healed settles crashes heals g h
one_from b o text other world beside settled crashed healed settles crashes heals g h =
    let first : h.s ≡ g.s = one_join o b h.s g.s h.join g.join in
    let second = one_settling o g.s h.t g.t settles settled (subst (λ x. Settle o x settles h.t) first h.settle)
    g.settle in
    let third = one_crash o settled.moment g.t h.v g.v crashes crashed
    (subst (λ x. CrashNodes o settled.moment x crashes h.v) second.1
    (subst (λ p. CrashNodes o p.moment h.t crashes h.v) second.0 h.crash)) g.crash in
    let fourth = one_healing o g.v h.u g.u heals healed (subst (λ x. Heal o x heals h.u) third.1 h.heal) g.heal in
    record {
      texts = g.text_is ∙ (ap (λ x. x.text) (sym fourth.1) ∙ sym h.text_is);
      worlds = g.world_is ∙ (ap (λ x. x.world) (sym fourth.1) ∙ sym h.world_is);
      settle = sym second.0;
      crash = sym third.0;
      heal = sym fourth.0;
      at_settle = sym second.1;
      at_crash = sym third.1;
      at_heal = sym fourth.1;
    }

pub one_growth : OneGrowth
one_growth o text other world beside settled crashed healed settles crashes heals g h =
    let one = one_from (beginning o) o text other world beside settled crashed healed settles crashes heals g h in
    (one.texts, one.worlds, one.settle, one.crash, one.heal)
