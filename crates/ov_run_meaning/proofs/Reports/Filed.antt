-- Analyses of subjects: why they are refused, and that the report which they bring may be filed.
use Rattle.std.proofs.Common.{◌≡◌, ◌∙◌, ℕ, ◌<◌, List, [], ◌∷◌, length, Option, Some, None, Result, Ok, Err, IfOk, IfErr}
use Rattle.std.proofs.Common.{inl, inr, refl, sym, ap, subst, arith}
use Rattle.std.proofs.lemmas.Option.{none-some}
use Rattle.std.proofs.lemmas.Result.{IfOk-weaker, IfErr-weaker}
use Rattle.ov_ids.specs.Members.{Has}
use Rattle.ov_snap.specs.declared.refused_core_call.CoreFault.TheVariants.{OutOfMemory}
use Rattle.ov_ids.specs.FaultOrder.{IsRefusedBy, Passed, HoldsThen}
use Rattle.ov_ids.proofs.Stepping.{step_none, step_passes}
use Rattle.ov_graph.specs.Links.{LinkGraph, IsGroup}
use Rattle.ov_cert.specs.Valid.{IsValidForGroup}
use Rattle.ov_cert.specs.declared.cert.Cert.{Cert}
use Rattle.ov_cert.specs.declared.cert.Cert.TheVariants as cert
use Rattle.ov_net.specs.Journal.{AreLinks, Live}
use Rattle.ov_net.proofs.Links.OneGraph.{links_one}
use Rattle.ov_snap.specs.CoreState.{CoreState, HasReport, IsSound}
use Rattle.ov_snap.specs.ReportState.{ReportState, IsTrueReport}
use Rattle.ov_snap.specs.Refusals.{FilingJudged, IsFiled}
use Rattle.ov_snap.specs.Snapshots.{IsMoment}
use Rattle.ov_snap.proofs.Refusing.{lived_then, group_then}
use Rattle.ov_snap.specs.declared.refused_core_call.CoreFault.{CoreFault}
use Rattle.ov_snap.specs.declared.refused_core_call.CoreFault.TheVariants.{NoSuchMoment, NoNodes, BadGroup, OtherGraph}
use Rattle.ov_snap.specs.declared.refused_core_call.CoreFault.TheVariants.{AlreadyFiled}
use Rattle.ov_run_meaning.specs.Subjects.{members_of, IsReportOf, IsReported, SubjectThen, AnalysisJudged}
use Rattle.ov_scenario.specs.declared.scenario.Subject.{Subject}

-- somebody lived at this moment
abbrev pub Lived : CoreState → ℕ → Type 0
Lived b m = (a : ℕ) × Live b.world.journal m a

-- no report of the subject is filed
abbrev pub IsFree : CoreState → Subject → Type 0
IsFree b s = (r : ReportState) → ¬ IsReportOf b s r

-- ---- judgements that begin with a subject

-- what passes the whole judgement has a moment, and passes what stands behind
subject_then : (b : CoreState) (m : ℕ) (group : Option (List ℕ)) (After : Option CoreFault → Type 0)
    → SubjectThen b m group After None
    → IsMoment b.world.journal m × After None
subject_then b m None After h = let parts = lived_then b m After h in (parts.0, parts.2)
subject_then b m (Some ids) After h = let parts = group_then b m ids After h in (parts.0, parts.2)

-- where the beginning passes, what stands behind decides
begun_then : (b : CoreState) (m : ℕ) (group : Option (List ℕ)) (After : Option CoreFault → Type 0)
    → SubjectThen b m group Passed None → After None
    → SubjectThen b m group After None
begun_then b m None After h later = let parts = lived_then b m Passed h in inl (parts.0, inl (parts.1, later))
begun_then b m (Some ids) After (inl (moment, inl (lived, inl (group, none)))) later =
    inl (moment, inl (lived, inl (group, later)))
begun_then b m (Some ids) After (inl (moment, inl (lived, inr (none, is)))) later = absurd (none-some BadGroup is)
begun_then b m (Some ids) After (inl (moment, inr (none, is))) later = absurd (none-some NoNodes is)
begun_then b m (Some ids) After (inr (none, is)) later = absurd (none-some NoSuchMoment is)

-- where it fails, it decides
failed_then : (b : CoreState) (m : ℕ) (group : Option (List ℕ)) (After : Option CoreFault → Type 0) (f : CoreFault)
    → SubjectThen b m group Passed (Some f)
    → SubjectThen b m group After (Some f)
failed_then b m None After f (inr h) = inr h
failed_then b m None After f (inl (moment, inr h)) = inl (moment, inr h)
failed_then b m None After f (inl (moment, inl (lived, none))) = absurd (none-some f (sym none))
failed_then b m (Some ids) After f (inr h) = inr h
failed_then b m (Some ids) After f (inl (moment, inr h)) = inl (moment, inr h)
failed_then b m (Some ids) After f (inl (moment, inl (lived, inr h))) = inl (moment, inl (lived, inr h))
failed_then b m (Some ids) After f (inl (moment, inl (lived, inl (group, none)))) = absurd (none-some f (sym none))

-- ---- an analysis begins, of whose subject no report is filed

-- how the analysis of a subject begins, of all nodes or of a group
abbrev pub BeginningJudged : CoreState → Subject → Option CoreFault → Type 0
BeginningJudged b s answer = SubjectThen b s.moment s.group Passed answer

begins : (b : CoreState) (s : Subject) → IsFree b s → BeginningJudged b s None → AnalysisJudged b s None
begins b s free judged =
    begun_then b s.moment s.group (HoldsThen (¬ IsReported b s) AlreadyFiled Passed) judged
    (inl ((λ k. free k.0 k.1), refl))

begins_not : (b : CoreState) (s : Subject) (f : CoreFault) → IsFree b s
    → IsRefusedBy OutOfMemory (BeginningJudged b s) f
    → IsRefusedBy OutOfMemory (AnalysisJudged b s) f
begins_not b s f free (inl fails) =
    inl (failed_then b s.moment s.group (HoldsThen (¬ IsReported b s) AlreadyFiled Passed) f fails)
begins_not b s f free (inr memory) = inr (memory.0, begins b s free memory.1)

-- the same of a call that begins it, for the group that is asked for
pub begun : {T : Type 0} (b : CoreState) (s : Subject) (group : Option (List ℕ)) (made : Result T CoreFault)
    → IsFree b s
    → s.group ≡ group → IfOk made (λ t. SubjectThen b s.moment group Passed None)
    → IfOk made (λ t. AnalysisJudged b s None)
begun b s group made free is judged =
    IfOk-weaker made (λ t. SubjectThen b s.moment group Passed None) (λ t. AnalysisJudged b s None)
    (λ t h. begins b s free (subst (λ g. SubjectThen b s.moment g Passed None) (sym is) h)) judged

pub not_begun : {T : Type 0} (b : CoreState) (s : Subject) (group : Option (List ℕ)) (made : Result T CoreFault)
    → IsFree b s
    → s.group ≡ group → IfErr made (IsRefusedBy OutOfMemory (SubjectThen b s.moment group Passed))
    → IfErr made (IsRefusedBy OutOfMemory (AnalysisJudged b s))
not_begun b s group made free is refused =
    IfErr-weaker made (IsRefusedBy OutOfMemory (SubjectThen b s.moment group Passed))
    (IsRefusedBy OutOfMemory (AnalysisJudged b s))
    (λ f h. begins_not b s f free (subst (λ g. IsRefusedBy OutOfMemory (SubjectThen b s.moment g Passed) f) (sym is) h))
    refused

-- ---- a report of the subject is filed

valid_group : (g : LinkGraph) (q : List ℕ) (c : Cert) → IsValidForGroup g q c → IsGroup g q
valid_group g q (cert.Linked k) valid = valid.0
valid_group g q (cert.Split c) valid = valid.0

first_of : (q : List ℕ) → 0 < length q → (a : ℕ) × Has q a
first_of [] some = absurd (omega (arith, some))
first_of (a ∷ q) some = (a, inl refl)

pub filed_before : (b : CoreState) (s : Subject) (r : ReportState) → IsReportOf b s r → IsTrueReport b.world.journal r
    → AnalysisJudged b s (Some AlreadyFiled)
filed_before b s r filed exact = by s.group filed.members where
  group : IsGroup r.graph r.members
  group = valid_group r.graph r.members r.cert exact.verdict

  links : AreLinks b.world.journal s.moment r.graph
  links = subst (λ m. AreLinks b.world.journal m r.graph) filed.moment exact.links

  moment : IsMoment b.world.journal s.moment
  moment = subst (IsMoment b.world.journal) filed.moment exact.moment

  lived : Lived b s.moment
  lived =
      let member = first_of r.members group.some_member in
      (member.0, (links.nodes member.0).0 (group.nodes member.0 member.1))

  Again : Option CoreFault → Type 0
  Again = HoldsThen (¬ IsReported b s) AlreadyFiled Passed

  again : Again (Some AlreadyFiled)
  again = inr ((λ free. free (r, filed)), refl)

  by : (asked : Option (List ℕ)) → r.members ≡ members_of asked r.graph
      → SubjectThen b s.moment asked Again (Some AlreadyFiled)
  by None members = inl (moment, inl (lived, again))
  by (Some ids) members =
      inl (moment, inl (lived, inl ((r.graph, links, subst (IsGroup r.graph) members group), again)))

pub filed_refused : (b : CoreState) (s : Subject) (r : ReportState) → IsReportOf b s r → IsTrueReport b.world.journal r
    → IsRefusedBy OutOfMemory (AnalysisJudged b s) AlreadyFiled
filed_refused b s r filed exact = inl (filed_before b s r filed exact)

-- ---- the result of an analysis may be filed

judged_parts : (b : CoreState) (s : Subject) → AnalysisJudged b s None → IsMoment b.world.journal s.moment × IsFree b s
judged_parts b s judged =
    let parts = subject_then b s.moment s.group (HoldsThen (¬ IsReported b s) AlreadyFiled Passed) judged in
    let last = (step_none (¬ IsReported b s) AlreadyFiled Passed parts.1).0 in
    (parts.0, λ r k. last (r, k))

pub may_be_filed : (b : CoreState) (s : Subject) (r : ReportState) → IsSound b → AnalysisJudged b s None
    → r.moment ≡ s.moment
    → AreLinks b.world.journal s.moment r.graph → r.members ≡ members_of s.group r.graph → FilingJudged b r None
may_be_filed b s r sound judged moment links members =
    inl (
      subst (IsMoment b.world.journal) (sym moment) parts.0,
      inl (
        subst (λ m. AreLinks b.world.journal m r.graph) (sym moment) links,
        inl ((λ k. parts.1 k.0 (own k.0 k.1)), refl),
      ),
    )
  where
    parts : IsMoment b.world.journal s.moment × IsFree b s
    parts = judged_parts b s judged

    same : (x : ReportState) → HasReport b r.moment r.members x → r.graph ≡ x.graph
    same x filed =
        links_one b.world.journal s.moment r.graph x.graph links
        (subst (λ m. AreLinks b.world.journal m x.graph) (filed.moment ∙ moment) (sound.is_true x filed.filed).links)

    own : (x : ReportState) → HasReport b r.moment r.members x → IsReportOf b s x
    own x filed = record {
      filed = filed.filed;
      moment = filed.moment ∙ moment;
      members = filed.members ∙ members ∙ ap (members_of s.group) (same x filed);
    }

-- what an analysis of the links of the moment answers may be filed
pub job_filed : {E : Type 0} (b : CoreState) (s : Subject) (m : ℕ) (g : LinkGraph) → IsSound b → AnalysisJudged b s None
    → m ≡ s.moment → AreLinks b.world.journal s.moment g → (made : Result ReportState E) → IfOk made (λ r. r.moment ≡ m)
    → IfOk made (λ r. r.graph ≡ g) → IfOk made (λ r. r.members ≡ members_of s.group g)
    → IfOk made (λ r. FilingJudged b r None)
job_filed b s m g sound judged at links (Ok r) moment graph members =
    may_be_filed b s r sound judged (moment ∙ at) (subst (AreLinks b.world.journal s.moment) (sym graph) links)
    (members ∙ ap (members_of s.group) (sym graph))
job_filed b s m g sound judged at links (Err f) moment graph members = tt

-- where nothing stands against the report, only memory can refuse to file it; so it refuses the analysis
pub filing_refused : (b : CoreState) (s : Subject) (r : ReportState) (f : CoreFault) → AnalysisJudged b s None
    → FilingJudged b r None → IsRefusedBy OutOfMemory (FilingJudged b r) f
    → IsRefusedBy OutOfMemory (AnalysisJudged b s) f
filing_refused b s r f judged free (inr memory) = inr (memory.0, judged)
filing_refused b s r f judged free (inl refused) =
    let Links : Type 0 = AreLinks b.world.journal r.moment r.graph in
    let Free : Type 0 = ¬ IsFiled b r.moment r.members in
    let first = step_none (IsMoment b.world.journal r.moment) NoSuchMoment
    (HoldsThen Links OtherGraph (HoldsThen Free AlreadyFiled Passed)) free in
    let second = step_none Links OtherGraph (HoldsThen Free AlreadyFiled Passed) first.1 in
    let third = step_none Free AlreadyFiled Passed second.1 in
    let behind = step_passes (IsMoment b.world.journal r.moment) NoSuchMoment
    (HoldsThen Links OtherGraph (HoldsThen Free AlreadyFiled Passed)) (Some f) first.0 refused in
    let last = step_passes Links OtherGraph (HoldsThen Free AlreadyFiled Passed) (Some f) second.0 behind in
    let none : Some f ≡ None = step_passes Free AlreadyFiled Passed (Some f) third.0 last in
    absurd (cc)
