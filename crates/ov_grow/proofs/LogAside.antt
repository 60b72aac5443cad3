-- A log of broadcasts that is kept changes nothing else of growing.
use Rattle.std.proofs.Common.{◌≡◌, ℕ, zero, suc, ◌-◌, ◌+◌, List, [], Option, Some, None}
use Rattle.std.specs.Prelude.{codes, if◌then◌else◌}
use Rattle.ov_net.specs.World.{WorldState}
use Rattle.ov_grow_options.specs.declared.options.Crash.{Crash}
use Rattle.ov_grow_options.specs.declared.options.Crash.TheVariants.{Share, Cut}
use Rattle.ov_grow_options.specs.declared.options.GrowOptions.{GrowOptions}
use Rattle.ov_grow.specs.Growing.{GrowsFrom, LogChangesNothing, beginning, begins}
use Rattle.ov_grow.specs.Growth.{Growth}
use Rattle.ov_grow.specs.Phases.{AreFirst, AreToCrash, Births, CrashNodes, EndsPhase, Heal, IsAnalysedAt, Join}
use Rattle.ov_grow.specs.Phases.{ReportCrashes, ReportTimes, Settle, crashing, healing, joining, settling, turns_between}
use Rattle.ov_script.specs.WrittenLines.{analysis_line, comment_line}
use Rattle.ov_grow.specs.declared.broadcast_log.BroadcastMark.{BroadcastMark}
use Rattle.ov_grow.specs.declared.phase_moment_and_deliveries.PhaseEnd.{PhaseEnd}
use Rattle.ov_grow.specs.declared.phase_rules.PhaseRules.{PhaseRules}
use Rattle.ov_script.specs.declared.recordable_event.Act.TheVariants as act
use Rattle.ov_grow.proofs.AnyLog.{Also, also_act, also_broadcasts, also_choice, also_each, also_in_order, also_rests}
use Rattle.ov_grow.proofs.AnyLog.{also_rounds, also_run_out, also_turns, also_way, also_write, logging, same_place}

-- ---- the end of a phase

also_analysis : (moment : ℕ) (l : Option (List BroadcastMark)) (s u : Growth) → IsAnalysedAt moment s u
    → Also (λ a b. IsAnalysedAt moment a b) l s u
also_analysis moment l s u (t, does, lives, is, writes) =
    let (k, did) = also_act act.Snapshot l s t does in
    let (m, wrote) = also_write (analysis_line moment) k t u writes in
    (m, (logging k t, did, lives, is, wrote))

also_ending : (rules : PhaseRules) (n : ℕ) (phase : PhaseEnd) (l : Option (List BroadcastMark)) (s u : Growth)
    → EndsPhase rules n s phase u → Also (λ a b. EndsPhase rules n a phase b) l s u
also_ending rules n phase l s u (t, analysed, (ids, broadcasts), is) =
    let (k, first) = also_analysis phase.moment l s t analysed in
    let (m, made) = also_broadcasts rules n ids k t u broadcasts in
    (m, (logging k t, first, (ids, made), is))

-- ---- the phases

also_births : (rules : PhaseRules) (pace id n : ℕ) (l : Option (List BroadcastMark)) (s u : Growth)
    → Births rules pace id n s u
    → Also (λ a b. Births rules pace id n a b) l s u
also_births rules pace id zero l s u same = also_rests l s u same
also_births rules pace id (suc n) l s u (place, t, v, w, turns, chooses, does, more) =
    let (k, turned) = also_turns rules pace l s t turns in
    let (j, chose) = also_choice (id - 1) place k t v chooses in
    let (h, did) = also_act (act.Boot id (Some (1 + place))) j v w does in
    let (m, others) = also_births rules pace (id + 1) n h w u more in
    (m, (place, logging k t, logging j v, logging h w, turned, chose, did, others))

also_join : (o : GrowOptions) (l : Option (List BroadcastMark)) (s u : Growth) → Join o s u
    → Also (λ a b. Join o a b) l s u
also_join o l s u (t, v, w, says, does, births, out) =
    let (k, said) = also_write (comment_line (codes "join")) l s t says in
    let (j, did) = also_act (act.Boot 1 None) k t v does in
    let (h, born) = also_births (joining o) (turns_between o.pace) 2 (o.nodes - 1) j v w births in
    let (m, ran) = also_run_out (joining o) h w u out in
    (m, (logging k t, logging j v, logging h w, said, did, born, ran))

also_settling : (o : GrowOptions) (phase : PhaseEnd) (l : Option (List BroadcastMark)) (s u : Growth)
    → Settle o s phase u
    → Also (λ a b. Settle o a phase b) l s u
also_settling o phase l s u (t, v, says, rounds, ends) =
    let (k, said) = also_write (comment_line (codes "settle")) l s t says in
    let (j, shuffled) = also_rounds (settling o) o.rounds k t v rounds in
    let (m, ended) = also_ending (settling o) o.broadcasts phase j v u ends in
    (m, (logging k t, logging j v, said, shuffled, ended))

also_to_crash : (crash : Crash) (moment : ℕ) (nodes : List ℕ) (l : Option (List BroadcastMark)) (s u : Growth)
    → AreToCrash crash moment s nodes u → Also (λ a b. AreToCrash crash moment a nodes b) l s u
also_to_crash (Share share) moment nodes l s u (order, are, is) =
    let (m, live) = also_in_order order l s u are in (m, (order, live, is))
also_to_crash Cut moment nodes l s u (cut, same) = (l, (cut, same_place l s u same))

also_crash : (o : GrowOptions) (moment : ℕ) (phase : PhaseEnd) (l : Option (List BroadcastMark)) (s u : Growth)
    → CrashNodes o moment s phase u → Also (λ a b. CrashNodes o moment a phase b) l s u
also_crash o moment phase l s u (nodes, t, v, w, says, are, each, ends) =
    let (k, said) = also_write (comment_line (codes "crash")) l s t says in
    let (j, those) = also_to_crash o.crash moment nodes k t v are in
    let (h, all) = also_each act.Crash nodes j v w each in
    let (m, ended) = also_ending (crashing o) o.broadcasts phase h w u ends in
    (m, (nodes, logging k t, logging j v, logging h w, said, those, all, ended))

also_first : (l : Option (List BroadcastMark)) (s : Growth) (node crashed : ℕ) → AreFirst s node crashed
    → AreFirst (logging l s) node crashed
also_first l s node crashed first = record {
  has = first.has;
  first_node = first.first_node;
  first_crashed = first.first_crashed;
}

also_reports : (rules : PhaseRules) (n : ℕ) (l : Option (List BroadcastMark)) (s u : Growth) → ReportTimes rules n s u
    → Also (λ a b. ReportTimes rules n a b) l s u
also_reports rules zero l s u (none, same) = (l, (none, same_place l s u same))
also_reports rules (suc n) l s u (node, crashed, t, v, first, does, out, more) =
    let (k, did) = also_act (act.CrashReport node crashed) l s t does in
    let (j, ran) = also_run_out rules k t v out in
    let (m, others) = also_reports rules n j v u more in
    (m, (node, crashed, logging k t, logging j v, also_first l s node crashed first, did, ran, others))

also_reported : (rules : PhaseRules) (l : Option (List BroadcastMark)) (s u : Growth) → ReportCrashes rules s u
    → Also (λ a b. ReportCrashes rules a b) l s u
also_reported rules l s u (n, times) = let (m, told) = also_reports rules n l s u times in (m, (n, told))

also_healing : (o : GrowOptions) (phase : PhaseEnd) (l : Option (List BroadcastMark)) (s u : Growth) → Heal o s phase u
    → Also (λ a b. Heal o a phase b) l s u
also_healing o phase l s u (t, v, w, says, are, rounds, ends) =
    let (k, said) = also_write (comment_line (codes "heal")) l s t says in
    let (j, told) = also_way o.detect (λ a b. b ≡ a) (λ a b. ReportCrashes (healing o) a b) k t v
    (λ same. also_rests k t v same) (λ reports. also_reported (healing o) k t v reports) are in
    let (h, shuffled) = also_rounds (healing o) o.heal j v w rounds in
    let (m, ended) = also_ending (healing o) o.broadcasts phase h w u ends in
    (m, (logging k t, logging j v, logging h w, said, told, shuffled, ended))

-- ---- all of growing

-- what is grown from where b stands is grown also if the log there is another, or none
also_grows : (l : Option (List BroadcastMark)) (b : Growth) (o : GrowOptions) (text : List ℕ) (world : WorldState)
    (settled crashed healed : PhaseEnd) → GrowsFrom b o text world settled crashed healed
    → GrowsFrom (logging l b) o text world settled crashed healed
also_grows l b o text world settled crashed healed grows =
    let (k, joined) = also_join o l b grows.s grows.join in
    let (j, settles) = also_settling o settled k grows.s grows.t grows.settle in
    let (h, crashes) = also_crash o settled.moment crashed j grows.t grows.v grows.crash in
    let (m, heals) = also_healing o healed h grows.v grows.u grows.heal in
    record {
      s = logging k grows.s;
      t = logging j grows.t;
      v = logging h grows.v;
      u = logging m grows.u;
      join = joined;
      settle = settles;
      crash = crashes;
      heal = heals;
      text_is = grows.text_is;
      world_is = grows.world_is;
    }

pub log_changes_nothing : LogChangesNothing
log_changes_nothing logged o text world settled crashed healed = (
  λ grows. also_grows None (begins logged o) o text world settled crashed healed grows,
  λ grows. also_grows (if logged then Some [] else None) (beginning o) o text world settled crashed healed grows,
)
