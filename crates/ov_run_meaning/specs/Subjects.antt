-- What a scenario analyses, why an analysis is refused, and what it does to a core: b is the core before, and u the
-- core after.
use Rattle.std.specs.Prelude.{◌≡◌, ℕ, List, Option, Some, None}
use Rattle.ov_ids.specs.FaultOrder.{HoldsThen, Passed}
use Rattle.ov_graph.specs.Links.{LinkGraph}
use Rattle.ov_even.specs.Answer.{IsAnswer}
use Rattle.ov_snap.specs.CoreState.{CoreState, HasReport}
use Rattle.ov_snap.specs.ReportState.{ReportState}
use Rattle.ov_snap.specs.Filing.{WasFiled}
use Rattle.ov_snap.specs.Refusals.{SomebodyLivedThen, GroupThen}
use Rattle.ov_snap.specs.declared.refused_core_call.CoreFault.{CoreFault}
use Rattle.ov_snap.specs.declared.refused_core_call.CoreFault.TheVariants.{AlreadyFiled}
use Rattle.ov_scenario.specs.declared.scenario.Subject.{Subject}

-- the group that is asked for, or all nodes if none is
abbrev pub members_of : Option (List ℕ) → LinkGraph → List ℕ
members_of None g = g.nodes
members_of (Some ids) g = ids

-- this report is filed for the subject: for its moment and its group
abbrev pub IsReportOf : CoreState → Subject → ReportState → Type 0
IsReportOf b s r = HasReport b s.moment (members_of s.group r.graph) r

-- a report is filed for the subject
abbrev pub IsReported : CoreState → Subject → Type 0
IsReported b s = (r : ReportState) × IsReportOf b s r

-- somebody must have lived at the moment m, and if ids are asked for, they must be a group of its nodes; then `After`
-- decides
abbrev pub SubjectThen : CoreState → ℕ → Option (List ℕ) → (Option CoreFault → Type 0) → Option CoreFault → Type 0
SubjectThen b m None After answer = SomebodyLivedThen b m After answer
SubjectThen b m (Some ids) After answer = GroupThen b m ids After answer

-- the first applicable refusal of an analysis in a scenario, in this order: its moment is no snapshot's, nobody lived
-- at that moment, the ids that are asked for are no group of those who did, a report is filed for the subject
abbrev pub AnalysisJudged : CoreState → Subject → Option CoreFault → Type 0
AnalysisJudged b s answer = SubjectThen b s.moment s.group (HoldsThen (¬ IsReported b s) AlreadyFiled Passed) answer

-- the subject was analysed: no refusal applied, and a report of it was filed, with the answer of an analysis of the
-- links of its moment for its group
pub record WasAnalysed (b : CoreState) (s : Subject) (r : ReportState) (u : CoreState) : Type 0 where
  pub judged : AnalysisJudged b s None
  pub moment : r.moment ≡ s.moment
  pub members : r.members ≡ members_of s.group r.graph
  pub answer : IsAnswer r.graph r.members r.cert
  pub filed : WasFiled b r u
