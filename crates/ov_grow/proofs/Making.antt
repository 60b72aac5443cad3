-- What longer ways leave of the nodes: who lives, and how many broadcasts each has made.
use Rattle.std.proofs.Common.{◌≡◌, ◌≤◌, ◌+◌, ℕ, zero, suc, Bool, true, false, List, [], ◌∷◌, Option, Some}
use Rattle.std.proofs.Common.{sym, ap, subst, ◌∙◌, inl, inr, arith}
use Rattle.std.specs.Ordering.{eq_by_cmp, nat_cmp}
use Rattle.std.specs.Cmp.{nat_cmp_total}
use Rattle.std.specs.FinMap as map
use Rattle.std.specs.FinMap.{get-insert, nat_cmp-IsAntisymmetric}
use Rattle.ov_ids.specs.declared.id.MsgId.{MsgId}
use Rattle.ov_peer.specs.PeerState.{PeerState}
use Rattle.ov_net.specs.Net.{Net, LivesAs}
use Rattle.ov_net.specs.declared.member.Member.TheVariants.{Live}
use Rattle.ov_net.specs.declared.journal_entry_and_changes.Entry.{Entry}
use Rattle.ov_net.proofs.Journal.Outcomes.{same_live}
use Rattle.ov_net.proofs.Steps.Places.{inserted_cases}
use Rattle.std.proofs.Common.{◌++◌, ◌<◌, append_assoc, length}
use Rattle.ov_plum.specs.PlumState.{most_broadcasts}
use Rattle.ov_net.specs.Journal as journal
use Rattle.ov_net.specs.World.{Stands}
use Rattle.ov_script.specs.declared.recordable_event.Act.TheVariants as act
use Rattle.ov_grow.specs.Growth.{Growth, Does, IsLive, SomebodyLives}
use Rattle.ov_grow.specs.Turns.{RunOut}
use Rattle.ov_grow.specs.Rounds.{DoesEach, Round, Rounds}
use Rattle.ov_grow.specs.Broadcasts.{AtOnce, BroadcastBy, Broadcasts, BroadcastsBegin, FireAt, FireAtEach, FireTimes}
use Rattle.ov_grow.specs.Broadcasts.{FiresIfItRuns, OneByOne}
use Rattle.ov_grow.specs.Phases.{AreTold, EndsPhase, IsAnalysedAt, ReportCrashes, ReportTimes}
use Rattle.ov_grow.specs.Code.Standing.{AllLive, Goes, HaveMade, MayMake, StillLive, growth_of}
use Rattle.ov_grow.specs.declared.fault.GrowFault.{GrowFault}
use Rattle.ov_grow.specs.declared.growth_in_progress.Growing.{Growing}
use Rattle.ov_grow.specs.declared.phase_moment_and_deliveries.PhaseEnd.{PhaseEnd}
use Rattle.ov_grow.specs.declared.phase_rules.PhaseRules.{PhaseRules}
use Rattle.ov_grow.proofs.Keeping.{Keeps, keeps_same, keeps_trans, lives_still, shuffle_keeps, snapshot_keeps}
use Rattle.ov_grow.proofs.Keeping.{report_keeps, timer_keeps, turns_keep}
use Rattle.std.specs.Prelude.{IfOk, MatchBool, Result}
use Rattle.std.proofs.lemmas.Result.{IfOk-weaker}
use Rattle.ov_grow.proofs.Broadcasting.{sender_same}
use Rattle.ov_grow.proofs.Made.{one_made}

-- who lives goes on living, and nobody has made more broadcasts than so many more
pub record MakesMost (n : ℕ) (s u : Growth) : Type 0 where
  pub live : (a : ℕ) → IsLive s a → IsLive u a
  pub made : (k : ℕ) → HaveMade k s → HaveMade (k + n) u
  pub more : List Entry
  pub journal : u.world.journal ≡ s.world.journal ++ more

-- an act by which nobody makes a broadcast
pub makes_none : (s u : Growth) → Keeps s u → MakesMost 0 s u
makes_none s u keeps = record {
  live = λ a (p, lives). keeps.nodes.live a p lives;
  made = λ k most a q lives. let (p, then, fewer) = keeps.nodes.made a q lives in
      let least = most a p then in omega (arith, fewer, least);
  more = keeps.more;
  journal = keeps.journal;
}

pub makes_then : (m n k : ℕ) (s t u : Growth) → k ≡ m + n → MakesMost m s t → MakesMost n t u → MakesMost k s u
makes_then m n k s t u sum one two = record {
  live = λ a lives. two.live a (one.live a lives);
  made = λ j most a p lives. let least = two.made (j + m) (one.made j most) a p lives in omega (arith, least, sum);
  more = one.more ++ two.more;
  journal = two.journal
      ∙ (ap (λ xs. xs ++ two.more) one.journal ∙ append_assoc s.world.journal one.more two.more);
}

-- a broadcast
broadcast_made : (s u : Growth) (node : ℕ) → Does s (act.Broadcast node) u → MakesMost 1 s u
broadcast_made s u node did =
    let m = s.world.net.nodes in
    let (p, lives, (q, sends, views, (left, enough, (cs, are, step)), same, is)) = did.step.step.2 in
    let nodes : u.world.net.nodes ≡ map.insert m node (Live q) = ap (λ (x : Net). x.nodes) same in
    let one : q.tree.made ≡ p.tree.made + 1 = one_made p [] cs q sends views did.entry.delivery step in
    record {
      live = λ a (r, living). let (x, still) = lives_still (eq_by_cmp nat_cmp a node) r q (map.get m a) living in
          (x, ap (λ n. map.get n a) nodes ∙ (get-insert nat_cmp_total m node (Live q) a ∙ still));
      made = λ k most a x living. elim (inserted_cases nat_cmp_total nat_cmp-IsAntisymmetric m node (Live q) a (Live x)
          (subst (λ n. map.get n a ≡ Some (Live x)) nodes living)) [
            | inl here ↦ let least = most node p lives in
                subst (λ (y : PeerState). y.tree.made ≤ k + 1) (same_live q x here.1) (omega (arith, one, least))
            | inr there ↦ let least = most a x there.1 in omega (arith, least)
          ];
      more = did.entry ∷ [];
      journal = did.step.journal;
    }

begin_made : (sender : Option ℕ) (nodes : List ℕ) (n : ℕ) (s u : Growth) (ids : List MsgId)
    → BroadcastsBegin sender nodes n s ids u → MakesMost n s u
begin_made sender nodes zero s u ids (none, same) = makes_none s u (keeps_same s u (ap (λ g. g.world) same))
begin_made sender nodes (suc n) s u ids (node, id, later, t, v, whose, (p, lives, is, did), names, more) =
    makes_then 0 (suc n) (suc n) s t u (omega arith)
    (makes_none s t (keeps_same s t (sender_same sender nodes node s t whose)))
    (makes_then 1 n (suc n) t v u (omega arith) (broadcast_made t v node did)
    (begin_made sender nodes n v u later more))

pub run_out_keeps : (rules : PhaseRules) (s u : Growth) → RunOut rules s u → Keeps s u
run_out_keeps rules s u (n, turns, none) = turns_keep rules n s u turns

fires_keep : (node : ℕ) (id : MsgId) (s u : Growth) (fired : Bool) → FiresIfItRuns node id s fired u → Keeps s u
fires_keep node id s u fired (inl (runs, did, holds)) = timer_keeps s u node id did
fires_keep node id s u fired (inr (rests, same, fails)) = keeps_same s u (ap (λ g. g.world) same)

fire_at_keeps : (node : ℕ) (ids : List MsgId) (s u : Growth) (fired : Bool) → FireAt node ids s fired u → Keeps s u
fire_at_keeps node [] s u fired (same, fails) = keeps_same s u (ap (λ g. g.world) same)
fire_at_keeps node (id ∷ ids) s u fired (first, others, t, fires, more, is) =
    keeps_trans s t u (fires_keep node id s t first fires) (fire_at_keeps node ids t u others more)

fire_each_keeps : (nodes : List ℕ) (ids : List MsgId) (s u : Growth) (fired : Bool) → FireAtEach nodes ids s fired u
    → Keeps s u
fire_each_keeps [] ids s u fired (same, fails) = keeps_same s u (ap (λ g. g.world) same)
fire_each_keeps (node ∷ nodes) ids s u fired (first, others, t, fires, more, is) =
    keeps_trans s t u (fire_at_keeps node ids s t first fires) (fire_each_keeps nodes ids t u others more)

times_keep : (rules : PhaseRules) (ids : List MsgId) (n : ℕ) (s u : Growth) → FireTimes rules ids n s u → Keeps s u
times_keep rules ids zero s u (live, are, each) = fire_each_keeps live ids s u false each
times_keep rules ids (suc n) s u (t, v, (live, are, each), out, more) =
    keeps_trans s t u (fire_each_keeps live ids s t true each)
    (keeps_trans t v u (run_out_keeps rules t v out) (times_keep rules ids n v u more))

-- broadcasts at once
pub at_once_made : (rules : PhaseRules) (n : ℕ) (s u : Growth) (ids : List MsgId) → AtOnce rules n s ids u
    → MakesMost n s u
at_once_made rules n s u ids (live, t, v, are, begin, out, (k, times)) =
    makes_then n 0 n s t u (omega arith) (begin_made rules.sender live n s t ids begin)
    (makes_none t u (keeps_trans t v u (run_out_keeps rules t v out) (times_keep rules ids k v u times)))

one_by_one_made : (rules : PhaseRules) (n : ℕ) (s u : Growth) (ids : List MsgId) → OneByOne rules n s ids u
    → MakesMost n s u
one_by_one_made rules zero s u ids (none, same) = makes_none s u (keeps_same s u (ap (λ g. g.world) same))
one_by_one_made rules (suc n) s u ids (first, later, t, one, is, more) =
    makes_then 1 n (suc n) s t u (omega arith) (at_once_made rules 1 s t first one)
    (one_by_one_made rules n t u later more)

either_made : (sequential : Bool) (rules : PhaseRules) (n : ℕ) (s u : Growth) (ids : List MsgId)
    → MatchBool sequential (OneByOne rules n s ids u) (AtOnce rules n s ids u) → MakesMost n s u
either_made true rules n s u ids made = one_by_one_made rules n s u ids made
either_made false rules n s u ids made = at_once_made rules n s u ids made

-- broadcasts
pub broadcasts_made : (rules : PhaseRules) (n : ℕ) (s u : Growth) (ids : List MsgId) → Broadcasts rules n s ids u
    → MakesMost n s u
broadcasts_made rules n s u ids made = either_made rules.sequential rules n s u ids made

-- a snapshot that is analysed
pub analysed_keeps : (m : ℕ) (s u : Growth) → IsAnalysedAt m s u → Keeps s u
analysed_keeps m s u (t, did, lives, is, writes) =
    keeps_trans s t u (snapshot_keeps s t did) (keeps_same t u (ap (λ g. g.world) writes))

-- the end of a phase
pub ending_made : (rules : PhaseRules) (n : ℕ) (s u : Growth) (phase : PhaseEnd) → EndsPhase rules n s phase u
    → MakesMost n s u
ending_made rules n s u phase (t, analysed, (ids, broadcasts), count) =
    makes_then 0 n n s t u (omega arith) (makes_none s t (analysed_keeps phase.moment s t analysed))
    (broadcasts_made rules n t u ids broadcasts)

-- some node lives at the end of a phase
pub ending_live : (rules : PhaseRules) (n : ℕ) (s u : Growth) (phase : PhaseEnd) → EndsPhase rules n s phase u
    → SomebodyLives u
ending_live rules n s u phase (t, (v, did, (a, lives), is, writes), (ids, broadcasts), count) =
    let same : t.world ≡ v.world = ap (λ g. g.world) writes in (
      a,
      (broadcasts_made rules n t u ids broadcasts).live a
          (subst (λ w. (p : PeerState) × LivesAs w.net a p) (sym same) lives),
    )

each_keeps : (nodes : List ℕ) (s u : Growth) → DoesEach act.Shuffle nodes s u → Keeps s u
each_keeps [] s u same = keeps_same s u (ap (λ g. g.world) same)
each_keeps (node ∷ nodes) s u (t, did, more) =
    keeps_trans s t u (shuffle_keeps s t node did) (each_keeps nodes t u more)

round_keeps : (rules : PhaseRules) (s u : Growth) → Round rules s u → Keeps s u
round_keeps rules s u (order, t, v, (live, after, are, orders, same), each, out) =
    keeps_trans s t u (keeps_same s t (ap (λ g. g.world) same))
    (keeps_trans t v u (each_keeps order t v each) (run_out_keeps rules v u out))

-- rounds of shuffles
pub rounds_keep : (rules : PhaseRules) (n : ℕ) (s u : Growth) → Rounds rules n s u → Keeps s u
rounds_keep rules zero s u same = keeps_same s u (ap (λ g. g.world) same)
rounds_keep rules (suc n) s u (t, round, more) =
    keeps_trans s t u (round_keeps rules s t round) (rounds_keep rules n t u more)

-- rounds of shuffles behind a comment
pub settle_keeps : (rules : PhaseRules) (n : ℕ) (s t u : Growth) → t.world ≡ s.world → Rounds rules n t u → Keeps s u
settle_keeps rules n s t u same rounds = keeps_trans s t u (keeps_same s t same) (rounds_keep rules n t u rounds)

-- so many broadcasts are made, of so many that may be made
abbrev pub HasRoom : ℕ → ℕ → Growth → Type 0
HasRoom count done s = (k : ℕ) × HaveMade (k + done) s × (k + count ≤ most_broadcasts)

pub have_more : (j k : ℕ) (s : Growth) → j ≤ k → HaveMade j s → HaveMade k s
have_more j k s more most = λ a p lives. let least = most a p lives in omega (arith, more, least)

pub room_begins : (count : ℕ) (s : Growth) → MayMake count s → HasRoom count 0 s
room_begins count s (k, most, few) = (k, have_more k (k + 0) s (omega arith) most, few)

pub room_next : (count done : ℕ) (s : Growth) → done < count → HasRoom count done s → MayMake 1 s
room_next count done s less (k, most, few) = (k + done, most, omega (arith, less, few))

pub room_more : (count done node : ℕ) (s t u : Growth) (id : MsgId) → t.world ≡ s.world → BroadcastBy node t id u
    → HasRoom count done s → HasRoom count (done + 1) u
room_more count done node s t u id same (p, lives, is, did) (k, most, few) =
    let first : HaveMade (k + done) t =
    subst (λ w. (a : ℕ) (p : PeerState) → LivesAs w.net a p → p.tree.made ≤ k + done) (sym same) most in (
      k,
      have_more (k + done + 1) (k + (done + 1)) u (omega arith) ((broadcast_made t u node did).made (k + done) first),
      few,
    )

-- one broadcast more was made, and nothing is left of it
pub room_less : (count done : ℕ) (s u : Growth) → MakesMost 1 s u → HasRoom count done s → HasRoom count (done + 1) u
room_less count done s u one (k, most, few) =
    (k, have_more (k + done + 1) (k + (done + 1)) u (omega arith) (one.made (k + done) most), few)

pub somebody_lives_on : (n : ℕ) (s u : Growth) → MakesMost n s u → SomebodyLives s → SomebodyLives u
somebody_lives_on n s u makes (a, lives) = (a, makes.live a lives)

pub broadcast_lives : (nodes : List ℕ) (node : ℕ) (s t u : Growth) (id : MsgId) → t.world ≡ s.world
    → BroadcastBy node t id u → AllLive nodes s → AllLive nodes u
broadcast_lives nodes node s t u id same (p, lives, is, did) all = λ a has.
    (broadcast_made t u node did).live a
    (subst (λ w. (p : PeerState) × LivesAs w.net a p) (sym same) (all a has))

pub may_make_keeps : (n : ℕ) (s u : Growth) → Keeps s u → MayMake n s → MayMake n u
may_make_keeps n s u keeps (k, most, few) =
    (k, have_more (k + 0) k u (omega arith) ((makes_none s u keeps).made k most), few)

pub lives_keeps : (s u : Growth) → Keeps s u → SomebodyLives s → SomebodyLives u
lives_keeps s u keeps (a, lives) = (a, (makes_none s u keeps).live a lives)

pub made_keeps : (k : ℕ) (s u : Growth) → Keeps s u → HaveMade k s → HaveMade k u
made_keeps k s u keeps most = have_more (k + 0) k u (omega arith) ((makes_none s u keeps).made k most)

times_reported : (rules : PhaseRules) (n : ℕ) (s u : Growth) → ReportTimes rules n s u → Keeps s u
times_reported rules zero s u (none, same) = keeps_same s u (ap (λ g. g.world) same)
times_reported rules (suc n) s u (node, crashed, t, v, first, did, out, more) =
    keeps_trans s t u (report_keeps s t node crashed did)
    (keeps_trans t v u (run_out_keeps rules t v out) (times_reported rules n v u more))

-- crash reports
pub reports_keep : (rules : PhaseRules) (s u : Growth) → ReportCrashes rules s u → Keeps s u
reports_keep rules s u (n, times) = times_reported rules n s u times

-- nodes are told of crashes, or are not
pub told_all_keep : (detect : Bool) (rules : PhaseRules) (s u : Growth) → AreTold detect rules s u → Keeps s u
told_all_keep true rules s u same = keeps_same s u (ap (λ g. g.world) same)
told_all_keep false rules s u reports = reports_keep rules s u reports

-- the same behind a comment, and then rounds of shuffles
pub heal_keeps : (detect : Bool) (rules : PhaseRules) (n : ℕ) (s t v u : Growth) → t.world ≡ s.world
    → AreTold detect rules t v → Rounds rules n v u → Keeps s u
heal_keeps detect rules n s t v u same told rounds =
    keeps_trans s t u (keeps_same s t same)
    (keeps_trans t v u (told_all_keep detect rules t v told) (rounds_keep rules n v u rounds))

-- when a phase has ended some node lives
pub ended_live : (rules : PhaseRules) (n : ℕ) (b u : Growing) (result : Result PhaseEnd GrowFault)
    → IfOk result (λ phase. Goes (λ s x. EndsPhase rules n s phase x) b u)
    → IfOk result (λ phase. SomebodyLives (growth_of u))
ended_live rules n b u result ended = IfOk-weaker result
    (λ phase. Goes (λ s x. EndsPhase rules n s phase x) b u) (λ phase. SomebodyLives (growth_of u))
    (λ phase ends. ending_live rules n (growth_of b) (growth_of u) phase ends.way) ended

-- and each has made as many broadcasts as before, and those of the phase, at most
pub ended_made : (rules : PhaseRules) (n k most : ℕ) (b u : Growing) (result : Result PhaseEnd GrowFault)
    → k + n ≤ most → HaveMade k (growth_of b)
    → IfOk result (λ phase. Goes (λ s x. EndsPhase rules n s phase x) b u)
    → IfOk result (λ phase. HaveMade most (growth_of u))
ended_made rules n k most b u result few made ended = IfOk-weaker result
    (λ phase. Goes (λ s x. EndsPhase rules n s phase x) b u) (λ phase. HaveMade most (growth_of u))
    (λ phase ends. have_more (k + n) most (growth_of u) few
    ((ending_made rules n (growth_of b) (growth_of u) phase ends.way).made k made)) ended

-- all of the nodes at the last moment of the journal live
pub still_now : (m : ℕ) (s : Growth) → Stands s.world → m ≡ length s.world.journal → StillLive m s
still_now m s stands is = λ a lived.
    (stands.tells.live a).0 (subst (λ k. journal.Live s.world.journal k a) is lived)
