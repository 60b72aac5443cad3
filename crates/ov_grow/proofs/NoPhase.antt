-- Why a phase can't be gone through.
use Rattle.std.proofs.Common.{◌≡◌, ◌+◌, ℕ, Bool, false, List, [], ◌∷◌, length, Some, None, sym, ap, subst, ◌∙◌, inl}
use Rattle.std.proofs.Common.{inr, ◌⊎◌}
use Rattle.std.proofs.Common.{arith, length-append}
use Rattle.std.specs.Prelude.{codes}
use Rattle.ov_ids.specs.Members.{Has}
use Rattle.ov_ids.specs.declared.id.MsgId.{MsgId}
use Rattle.ov_ids.specs.FaultOrder.{HoldsThen, IsRefusedBy, Passed}
use Rattle.ov_ids.proofs.Stepping.{step_passes}
use Rattle.ov_net.specs.Journal.{Live}
use Rattle.ov_net.specs.World.{Stands}
use Rattle.ov_net.specs.declared.journal_entry_and_changes.Entry.{Entry}
use Rattle.ov_net.specs.declared.event.Event.TheVariants as event
use Rattle.ov_snap.specs.CoreState.{CoreState, IsSound}
use Rattle.ov_snap.specs.Run.{Happened}
use Rattle.ov_snap.specs.Snapshots.{IsMoment}
use Rattle.ov_snap.specs.declared.refused_core_call.CoreFault.{CoreFault}
use Rattle.ov_snap.specs.declared.refused_core_call.CoreFault.TheVariants.{AlreadyFiled, NoNodes, NoSuchMoment}
use Rattle.ov_snap.specs.declared.refused_core_call.CoreFault.TheVariants as core_fault
use Rattle.ov_snap.proofs.Moments.{moment_new, moment_within}
use Rattle.ov_run_meaning.specs.Subjects.{AnalysisJudged, IsReported}
use Rattle.ov_grow.specs.Recordings.{all_of}
use Rattle.ov_grow_options.specs.declared.options.GrowOptions.{GrowOptions}
use Rattle.ov_script.specs.WrittenLines.{comment_line}
use Rattle.ov_script.specs.declared.recordable_event.Act.TheVariants as act
use Rattle.ov_grow.specs.Growth.{Growth, Does, SomebodyLives, Writes}
use Rattle.ov_grow.specs.Turns.{RunOut}
use Rattle.ov_grow.specs.Rounds.{DoesEach, Rounds}
use Rattle.ov_grow.specs.Broadcasts.{Broadcasts}
use Rattle.ov_grow.specs.Phases.{AreFirst, AreToCrash, AreTold, CrashNodes, EndsPhase, Heal, IsAnalysedAt}
use Rattle.ov_grow.specs.Phases.{ReportCrashes, Settle, crashing, healing, settling}
use Rattle.ov_grow.specs.Faults.{of_analysis}
use Rattle.ov_grow.specs.Code.Standing.{Goes, IsFresh, IsNoWay, growth_of}
use Rattle.ov_grow.specs.declared.fault.GrowFault.{GrowFault}
use Rattle.ov_grow.specs.declared.fault.GrowFault.TheVariants.{OutOfMemory}
use Rattle.ov_grow.specs.declared.growth_in_progress.Growing.{Growing}
use Rattle.ov_grow.specs.declared.phase_moment_and_deliveries.PhaseEnd.{PhaseEnd}
use Rattle.ov_grow.specs.declared.phase_rules.PhaseRules.{PhaseRules}
use Rattle.ov_grow.proofs.Going.{IsOn, no_way_by, on_nowhere}
use Rattle.ov_grow.proofs.OneGrowth.{one_act}
use Rattle.ov_grow.proofs.OnePhase.{crash_follows, crash_rest, ending_rest, heal_follows, heal_rest, report_follows}
use Rattle.ov_grow.proofs.OnePhase.{reported_follows, reports_follow, reports_rest, settle_follows, settle_rest}
use Rattle.ov_grow.proofs.Ways.{reports_goes}

-- a snapshot was taken, and no report of it is filed: all reports are of earlier moments
pub snapshot_fresh : (b u : CoreState) (words : List ℕ) (e : Entry) → IsSound b → Happened b event.Snapshot words e u
    → IsFresh u
snapshot_fresh b u words e sound happened = (
  subst (λ j. IsMoment j (length j)) (sym happened.journal) (moment_new b.world.journal e happened.step.0),
  λ (r, report).
      let before = moment_within b.world.journal r.moment
      (sound.is_true r (subst (λ rs. Has rs r) happened.reports report.filed)).moment in
      let now : length u.world.journal ≡ length b.world.journal + 1 =
      ap length happened.journal ∙ length-append b.world.journal (e ∷ []) in
      let same : r.moment ≡ length u.world.journal = report.moment in
      absurd (omega (arith, before, now, same)),
)

-- an analysis of such a snapshot is refused for lack of memory, or since nobody lives
analysis_refused : (b : Growing) (fault : CoreFault) → Stands b.recording.core.world → IsFresh b.recording.core
    → IsRefusedBy core_fault.OutOfMemory
    (AnalysisJudged b.recording.core (all_of (length b.recording.core.world.journal))) fault
    → (fault ≡ core_fault.OutOfMemory) ⊎ ¬ SomebodyLives (growth_of b)
analysis_refused b fault stands fresh (inr (memory, none)) = inl memory
analysis_refused b fault stands fresh (inl judged) =
    let core = b.recording.core in
    let now = length core.world.journal in
    let After = HoldsThen (¬ IsReported core (all_of now)) AlreadyFiled Passed in
    elim (step_passes (IsMoment core.world.journal now) NoSuchMoment
    (HoldsThen ((a : ℕ) × Live core.world.journal now a) NoNodes After) (Some fault) fresh.0 judged) [
      | inl lived ↦ absurd (let none : Some fault ≡ None =
          step_passes (¬ IsReported core (all_of now)) AlreadyFiled Passed (Some fault) fresh.1 lived.1 in cc)
      | inr nobody ↦ inr (λ (a, lives). nobody.0 (a, (stands.tells.live a).1 lives))
    ]

-- the same of the fault of growing that it becomes
pub analysis_fails : (b : Growing) (m : ℕ) (fault : CoreFault) → Stands b.recording.core.world
    → m ≡ length b.recording.core.world.journal → IsFresh b.recording.core
    → IsRefusedBy core_fault.OutOfMemory (AnalysisJudged b.recording.core (all_of m)) fault
    → (of_analysis fault ≡ OutOfMemory) ⊎ ¬ SomebodyLives (growth_of b)
analysis_fails b m fault stands now fresh refused =
    elim (analysis_refused b fault stands fresh
    (subst (λ n. IsRefusedBy core_fault.OutOfMemory (AnalysisJudged b.recording.core (all_of n)) fault) now refused)) [
      | inl memory ↦ inl (ap of_analysis memory)
      | inr nobody ↦ inr nobody
    ]

-- no snapshot can be taken
pub no_way_snapshot : (b : Growing) (fault : GrowFault) → IsNoWay (λ s u. Does s act.Snapshot u) b fault
    → IsNoWay (λ s u. (m : ℕ) × IsAnalysedAt m s u) b fault
no_way_snapshot b fault none =
    no_way_by (λ s u. Does s act.Snapshot u) (λ s u. (m : ℕ) × IsAnalysedAt m s u) b b fault
    (λ u (m, (t, did, lives, is, writes)). (t, did)) none

-- a snapshot was taken, but nobody lives
pub no_way_analysis : (b t : Growing) (fault : GrowFault) → Goes (λ s u. Does s act.Snapshot u) b t
    → (fault ≡ OutOfMemory) ⊎ ¬ SomebodyLives (growth_of t) → IsNoWay (λ s u. (m : ℕ) × IsAnalysedAt m s u) b fault
no_way_analysis b t fault did (inl memory) = inl memory
no_way_analysis b t fault did (inr nobody) = inr (λ u (m, (x, does, lives, is, writes)).
    nobody (subst (λ g. SomebodyLives g) (one_act (growth_of b) x (growth_of t) act.Snapshot does did.way) lives))

-- a phase can't end, as there is no analysis
pub no_way_ending : (rules : PhaseRules) (n : ℕ) (b : Growing) (fault : GrowFault)
    → IsNoWay (λ s u. (m : ℕ) × IsAnalysedAt m s u) b fault
    → IsNoWay (λ s u. (phase : PhaseEnd) × EndsPhase rules n s phase u) b fault
no_way_ending rules n b fault none =
    no_way_by (λ s u. (m : ℕ) × IsAnalysedAt m s u) (λ s u. (phase : PhaseEnd) × EndsPhase rules n s phase u) b b fault
    (λ u (phase, (t, analysed, broadcasts, count)). (t, (phase.moment, analysed))) none

-- a phase can't end, as there are no broadcasts
pub no_way_analysed : (rules : PhaseRules) (n m : ℕ) (b t : Growing) (fault : GrowFault)
    → Goes (λ s u. IsAnalysedAt m s u) b t
    → IsNoWay (λ s u. (ids : List MsgId) × Broadcasts rules n s ids u) t fault
    → IsNoWay (λ s u. (phase : PhaseEnd) × EndsPhase rules n s phase u) b fault
no_way_analysed rules n m b t fault analysed none =
    no_way_by (λ s u. (ids : List MsgId) × Broadcasts rules n s ids u)
    (λ s u. (phase : PhaseEnd) × EndsPhase rules n s phase u) t b fault
    (λ u (phase, ends).
    (u, (ending_rest rules n m (growth_of b) (growth_of t) u phase analysed.way ends).1)) none

-- the end of a phase, under these rules and with so many broadcasts
ends_by : (rules others : PhaseRules) (k n : ℕ) (t : Growing) (fault : GrowFault) → rules ≡ others → k ≡ n
    → IsNoWay (λ s u. (phase : PhaseEnd) × EndsPhase rules k s phase u) t fault
    → IsNoWay (λ s u. (phase : PhaseEnd) × EndsPhase others n s phase u) t fault
ends_by rules others k n t fault by many none =
    subst (λ m. IsNoWay (λ s u. (phase : PhaseEnd) × EndsPhase others m s phase u) t fault) many
    (subst (λ r. IsNoWay (λ s u. (phase : PhaseEnd) × EndsPhase r k s phase u) t fault) by none)

-- the same of rounds
rounds_by : (rules others : PhaseRules) (k n : ℕ) (s u : Growth) → rules ≡ others → k ≡ n → Rounds rules k s u
    → Rounds others n s u
rounds_by rules others k n s u by many rounds =
    subst (λ m. Rounds others m s u) many (subst (λ r. Rounds r k s u) by rounds)

-- the overlay can't settle, as there are no such rounds
pub no_way_settle : (o : GrowOptions) (rules : PhaseRules) (n : ℕ) (b t : Growing) (fault : GrowFault)
    → rules ≡ settling o → n ≡ o.rounds → Goes (λ s x. Writes s (comment_line (codes "settle")) x) b t
    → IsNoWay (Rounds rules n) t fault → IsNoWay (λ s u. (phase : PhaseEnd) × Settle o s phase u) b fault
no_way_settle o rules n b t fault by many says none =
    no_way_by (Rounds rules n) (λ s u. (phase : PhaseEnd) × Settle o s phase u) t b fault
    (λ u (phase, settle).
    let (v, rounds, ends) = settle_follows o (growth_of b) (growth_of t) u phase says.way settle in
    (v, rounds_by (settling o) rules o.rounds n (growth_of t) v (sym by) (sym many) rounds)) none

-- the overlay can't settle, as the phase does not end
pub no_way_settled : (o : GrowOptions) (rules : PhaseRules) (n k : ℕ) (b t v : Growing) (fault : GrowFault)
    → rules ≡ settling o → n ≡ o.rounds → k ≡ o.broadcasts
    → Goes (λ s x. Writes s (comment_line (codes "settle")) x) b t → Goes (Rounds rules n) t v
    → IsNoWay (λ s u. (phase : PhaseEnd) × EndsPhase rules k s phase u) v fault
    → IsNoWay (λ s u. (phase : PhaseEnd) × Settle o s phase u) b fault
no_way_settled o rules n k b t v fault by many each says rounds none =
    no_way_by (λ s u. (phase : PhaseEnd) × EndsPhase (settling o) o.broadcasts s phase u)
    (λ s u. (phase : PhaseEnd) × Settle o s phase u) v b fault
    (λ u (phase, settle). (
      u,
      (
        phase,
        settle_rest o (growth_of b) (growth_of t) (growth_of v) u phase says.way
            (rounds_by rules (settling o) n o.rounds (growth_of t) (growth_of v) by many rounds.way) settle,
      ),
    ))
    (ends_by rules (settling o) k o.broadcasts v fault by each none)

-- one of the nodes that are to crash can't
pub no_way_crash : (o : GrowOptions) (m : ℕ) (nodes those : List ℕ) (b t v : Growing) (fault : GrowFault)
    → those ≡ nodes → Goes (λ s x. Writes s (comment_line (codes "crash")) x) b t
    → Goes (λ s x. AreToCrash o.crash m s nodes x) t v → IsNoWay (DoesEach act.Crash those) v fault
    → IsNoWay (λ s u. (phase : PhaseEnd) × CrashNodes o m s phase u) b fault
no_way_crash o m nodes those b t v fault same says are none =
    no_way_by (DoesEach act.Crash nodes) (λ s u. (phase : PhaseEnd) × CrashNodes o m s phase u) v b fault
    (λ u (phase, crash).
    let (w, each, ends) =
    crash_follows o m nodes (growth_of b) (growth_of t) (growth_of v) u phase says.way are.way crash in
    (w, each)) (subst (λ xs. IsNoWay (DoesEach act.Crash xs) v fault) same none)

-- nodes crashed, but the phase does not end
pub no_way_crashed : (o : GrowOptions) (m : ℕ) (rules : PhaseRules) (k : ℕ) (nodes those : List ℕ) (b t v w : Growing)
    (fault : GrowFault) → rules ≡ crashing o → k ≡ o.broadcasts → those ≡ nodes
    → Goes (λ s x. Writes s (comment_line (codes "crash")) x) b t
    → Goes (λ s x. AreToCrash o.crash m s nodes x) t v → Goes (DoesEach act.Crash those) v w
    → IsNoWay (λ s u. (phase : PhaseEnd) × EndsPhase rules k s phase u) w fault
    → IsNoWay (λ s u. (phase : PhaseEnd) × CrashNodes o m s phase u) b fault
no_way_crashed o m rules k nodes those b t v w fault by each same says are all none =
    no_way_by (λ s u. (phase : PhaseEnd) × EndsPhase (crashing o) o.broadcasts s phase u)
    (λ s u. (phase : PhaseEnd) × CrashNodes o m s phase u) w b fault
    (λ u (phase, crash). (
      u,
      (
        phase,
        crash_rest o m nodes (growth_of b) (growth_of t) (growth_of v) (growth_of w) u
            phase says.way are.way (subst (λ xs. DoesEach act.Crash xs (growth_of v) (growth_of w)) same all.way) crash,
      ),
    ))
    (ends_by rules (crashing o) k o.broadcasts w fault by each none)

-- the next crash report can't be given
pub no_way_report : (rules : PhaseRules) (node crashed : ℕ) (b t : Growing) (fault : GrowFault)
    → IsOn (ReportCrashes rules) (ReportCrashes rules) b t → AreFirst (growth_of t) node crashed
    → IsNoWay (λ s u. Does s (act.CrashReport node crashed) u) t fault → IsNoWay (ReportCrashes rules) b fault
no_way_report rules node crashed b t fault so first none =
    on_nowhere (ReportCrashes rules) (ReportCrashes rules) (λ s u. Does s (act.CrashReport node crashed) u) b t fault so
    (λ u reports.
    let (v, w, did, out, more) = reports_follow rules node crashed (growth_of t) u first reports in (v, did)) none

-- a crash report was given, and packets can't run out
pub no_way_reported : (rules : PhaseRules) (node crashed : ℕ) (b t v : Growing) (fault : GrowFault)
    → IsOn (ReportCrashes rules) (ReportCrashes rules) b t → AreFirst (growth_of t) node crashed
    → Goes (λ s u. Does s (act.CrashReport node crashed) u) t v → IsNoWay (RunOut rules) v fault
    → IsNoWay (ReportCrashes rules) b fault
no_way_reported rules node crashed b t v fault so first did none =
    no_way_by (RunOut rules) (ReportCrashes rules) v b fault
    (λ u reports.
    let (w, out, more) = report_follows rules node crashed (growth_of t) (growth_of v) u first did.way
    (so.leads u reports) in (w, out)) none

-- a crash report was given, and packets ran out
pub left_reports : (rules : PhaseRules) (node crashed : ℕ) (b t v w : Growing)
    → IsOn (ReportCrashes rules) (ReportCrashes rules) b t → AreFirst (growth_of t) node crashed
    → Goes (λ s u. Does s (act.CrashReport node crashed) u) t v → Goes (RunOut rules) v w
    → IsOn (ReportCrashes rules) (ReportCrashes rules) b w
left_reports rules node crashed b t v w so first did out = record {
  goes = λ u more. so.goes u (reports_goes rules node crashed t v w u first did out more);
  leads = λ u reports. reports_rest rules node crashed (growth_of t) (growth_of v) (growth_of w) u first did.way out.way
      (so.leads u reports);
}

-- nodes can't be told of crashes, as there are no such crash reports
pub no_way_told : (detect : Bool) (rules : PhaseRules) (b : Growing) (fault : GrowFault) → detect ≡ false
    → IsNoWay (ReportCrashes rules) b fault → IsNoWay (AreTold detect rules) b fault
no_way_told detect rules b fault fails none =
    subst (λ d. IsNoWay (AreTold d rules) b fault) (sym fails) none

-- the overlay can't heal, as nodes can't be told of crashes
pub no_way_heal : (o : GrowOptions) (rules : PhaseRules) (b t : Growing) (fault : GrowFault) → rules ≡ healing o
    → Goes (λ s x. Writes s (comment_line (codes "heal")) x) b t → IsNoWay (AreTold o.detect rules) t fault
    → IsNoWay (λ s u. (phase : PhaseEnd) × Heal o s phase u) b fault
no_way_heal o rules b t fault by says none =
    no_way_by (AreTold o.detect (healing o)) (λ s u. (phase : PhaseEnd) × Heal o s phase u) t b fault
    (λ u (phase, heal).
    let (v, w, told, rounds, ends) = heal_follows o (growth_of b) (growth_of t) u phase says.way heal in
    (v, told)) (subst (λ r. IsNoWay (AreTold o.detect r) t fault) by none)

-- the overlay can't heal, as there are no such rounds
pub no_way_mended : (o : GrowOptions) (rules : PhaseRules) (n : ℕ) (b t v : Growing) (fault : GrowFault)
    → rules ≡ healing o → n ≡ o.heal → Goes (λ s x. Writes s (comment_line (codes "heal")) x) b t
    → Goes (AreTold o.detect rules) t v → IsNoWay (Rounds rules n) v fault
    → IsNoWay (λ s u. (phase : PhaseEnd) × Heal o s phase u) b fault
no_way_mended o rules n b t v fault by many says told none =
    no_way_by (Rounds rules n) (λ s u. (phase : PhaseEnd) × Heal o s phase u) v b fault
    (λ u (phase, heal).
    let (w, rounds, ends) = reported_follows o (growth_of b) (growth_of t) (growth_of v) u phase says.way
    (subst (λ r. AreTold o.detect r (growth_of t) (growth_of v)) by told.way) heal in
    (w, rounds_by (healing o) rules o.heal n (growth_of v) w (sym by) (sym many) rounds)) none

-- the overlay can't heal, as the phase does not end
pub no_way_healed : (o : GrowOptions) (rules : PhaseRules) (n k : ℕ) (b t v w : Growing) (fault : GrowFault)
    → rules ≡ healing o → n ≡ o.heal → k ≡ o.broadcasts
    → Goes (λ s x. Writes s (comment_line (codes "heal")) x) b t → Goes (AreTold o.detect rules) t v
    → Goes (Rounds rules n) v w → IsNoWay (λ s u. (phase : PhaseEnd) × EndsPhase rules k s phase u) w fault
    → IsNoWay (λ s u. (phase : PhaseEnd) × Heal o s phase u) b fault
no_way_healed o rules n k b t v w fault by many each says told rounds none =
    no_way_by (λ s u. (phase : PhaseEnd) × EndsPhase (healing o) o.broadcasts s phase u)
    (λ s u. (phase : PhaseEnd) × Heal o s phase u) w b fault
    (λ u (phase, heal). (
      u,
      (
        phase,
        heal_rest o (growth_of b) (growth_of t) (growth_of v) (growth_of w) u phase
            says.way (subst (λ r. AreTold o.detect r (growth_of t) (growth_of v)) by told.way)
            (rounds_by rules (healing o) n o.heal (growth_of v) (growth_of w) by many rounds.way) heal,
      ),
    ))
    (ends_by rules (healing o) k o.broadcasts w fault by each none)
