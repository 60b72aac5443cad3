-- What an analysis is to growing.
use Rattle.std.proofs.Common.{◌≡◌, ℕ, List, [], ◌∷◌, length, refl, sym, ap, subst}
use Rattle.std.proofs.Common.{inl}
use Rattle.ov_ids.specs.Members.{Has}
use Rattle.ov_ids.specs.FaultOrder.{HoldsThen, Passed}
use Rattle.ov_ids.proofs.Members.{has_append_left, has_append_right}
use Rattle.ov_ids.proofs.Stepping.{step_none}
use Rattle.ov_even.specs.Answer.{IsAnswer}
use Rattle.ov_net.specs.Journal.{AreLinks, Live}
use Rattle.ov_net.proofs.Links.OneGraph.{links_one}
use Rattle.ov_net.specs.World.{Stands}
use Rattle.ov_snap.specs.CoreState.{CoreState, HasReport, HasReportOfAll, IsSound, KeepsReports}
use Rattle.ov_snap.specs.ReportState.{IsTrueReport, ReportState}
use Rattle.ov_snap.specs.Snapshots.{IsMoment}
use Rattle.ov_snap.specs.declared.refused_core_call.CoreFault.TheVariants.{AlreadyFiled, NoNodes, NoSuchMoment}
use Rattle.ov_run_meaning.specs.Subjects.{IsReported, WasAnalysed}
use Rattle.ov_scenario.specs.declared.scenario.Line.{Line}
use Rattle.ov_peer.specs.PeerState.{PeerState}
use Rattle.ov_net.specs.Net.{LivesAs}
use Rattle.ov_script.specs.WrittenLines.{analysis_line}
use Rattle.ov_grow.specs.Recordings.{HasOneLineMore, all_of}
use Rattle.ov_grow.specs.Growth.{Growth, SomebodyLives, Writes}
use Rattle.ov_grow.specs.Phases.{IsCutAt, cut_of}
use Rattle.ov_grow.specs.Code.Logging.{log_of}
use Rattle.ov_grow.specs.Code.Standing.{Goes, IsAnswered, growth_of}
use Rattle.ov_grow.specs.declared.growth_in_progress.Growing.{Growing}

-- an analysis was filed and written
pub analysis_goes : (b u : Growing) (m : ℕ) (r : ReportState) (asked : Line) → u.choices ≡ b.choices → u.log ≡ b.log
    → WasAnalysed b.recording.core (all_of m) r u.recording.core
    → HasOneLineMore b.recording.script (analysis_line m) asked u.recording.script
    → Goes (λ s v. Writes s (analysis_line m) v) b u
analysis_goes b u m r asked choices log analysed written = record {
  way = λ i. record {
    text = written.text i;
    world = (ap (λ x. x.world) analysed.filed.reports) i;
    choices = choices i;
    log = (ap (λ l. log_of l) log) i;
  };
  kept = (r ∷ [], ap (λ x. x.reports) analysed.filed.reports);
}

-- the report of an analysis is filed, and has its answer
pub analysis_answered : (b u : CoreState) (m : ℕ) (r : ReportState) → WasAnalysed b (all_of m) r u → IsAnswered u m
analysis_answered b u m r analysed = (
  r,
  record {
    filed = subst (λ rs. Has rs r) (sym (ap (λ x. x.reports) analysed.filed.reports))
        (has_append_right b.reports (r ∷ []) r (inl refl));
    moment = analysed.moment;
    members = analysed.members;
  },
  analysed.answer,
)

-- reports that are kept have their answers
pub answered_kept : (b u : CoreState) (m : ℕ) → KeepsReports b u → IsAnswered b m → IsAnswered u m
answered_kept b u m (more, same) (r, filed, answer) = (
  r,
  record {
    filed = subst (λ rs. Has rs r) (sym same) (has_append_left b.reports more r filed.filed);
    moment = filed.moment;
    members = filed.members;
  },
  answer,
)

-- somebody lived at a moment that was analysed
pub analysis_live : (b u : CoreState) (m : ℕ) (r : ReportState) → WasAnalysed b (all_of m) r u
    → (a : ℕ) × Live b.world.journal m a
analysis_live b u m r analysed =
    let After = HoldsThen (¬ IsReported b (all_of m)) AlreadyFiled Passed in
    let at = step_none (IsMoment b.world.journal m) NoSuchMoment
    (HoldsThen ((a : ℕ) × Live b.world.journal m a) NoNodes After) analysed.judged in
    (step_none ((a : ℕ) × Live b.world.journal m a) NoNodes After at.1).0

-- so somebody lives now, if that is the moment of now
pub somebody_lives : (b u : Growing) (m : ℕ) (r : ReportState) → Stands b.recording.core.world
    → m ≡ length b.recording.core.world.journal
    → WasAnalysed b.recording.core (all_of m) r u.recording.core → SomebodyLives (growth_of u)
somebody_lives b u m r stands now analysed =
    let lived = analysis_live b.recording.core u.recording.core m r analysed in
    let lives = (stands.tells.live lived.0).0
    (subst (λ n. Live b.recording.core.world.journal n lived.0) now lived.1) in (
      lived.0,
      subst (λ w. (p : PeerState) × LivesAs w.net lived.0 p)
          (sym (ap (λ x. x.world) analysed.filed.reports)) lives,
    )

-- who lives after a line was written lived before
pub lived_before : (s u : Growth) (written : List ℕ) → Writes s written u → SomebodyLives u → SomebodyLives s
lived_before s u written writes (a, (p, lives)) =
    (a, (p, subst (λ w. LivesAs w.net a p) (ap (λ g. g.world) writes) lives))

-- the report that is filed for a moment names the cut of that moment
pub cut_named : (b : CoreState) (m : ℕ) (r : ReportState) (cut : List ℕ) → IsSound b → IsAnswered b m
    → HasReportOfAll b m r → IsTrueReport b.world.journal r → cut ≡ cut_of r.cert → IsCutAt b.world.journal m cut
cut_named b m r cut sound (s, filed, answer) found is_true is =
    let links : AreLinks b.world.journal m r.graph =
    subst (λ n. AreLinks b.world.journal n r.graph) found.moment is_true.links in
    let other : AreLinks b.world.journal m s.graph =
    subst (λ n. AreLinks b.world.journal n s.graph) filed.moment (sound.is_true s filed.filed).links in
    let graph : r.graph ≡ s.graph = links_one b.world.journal m r.graph s.graph links other in
    let one : r ≡ s = sound.one m r.graph.nodes r s found
    (subst (λ g. HasReport b m g.nodes s) (sym graph) filed) in
    let own : IsAnswer r.graph r.members r.cert = subst (λ x. IsAnswer x.graph x.members x.cert) (sym one) answer in
    (r.graph, r.cert, links, subst (λ q. IsAnswer r.graph q r.cert) found.members own, is)

-- the same of a core that was read
pub cut_at_report : (b read : CoreState) (m : ℕ) (r : ReportState) (cut : List ℕ) → read ≡ b → IsSound read
    → IsAnswered b m → HasReportOfAll read m r → IsTrueReport read.world.journal r → cut ≡ cut_of r.cert
    → IsCutAt b.world.journal m cut
cut_at_report b read m r cut same sound answered found is_true is =
    subst (λ x. IsCutAt x.world.journal m cut) same
    (cut_named read m r cut sound (subst (λ x. IsAnswered x m) (sym same) answered) found is_true is)

-- what is answered is reported, also in a core that was read
pub reported : (b read : CoreState) (m : ℕ) → read ≡ b → IsAnswered b m → (r : ReportState) × HasReportOfAll read m r
reported b read m same (r, filed, answer) = (r, subst (λ x. HasReportOfAll x m r) (sym same) filed)
