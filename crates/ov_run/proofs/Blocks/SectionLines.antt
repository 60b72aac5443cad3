-- The lines of a section, one after the other, and what each does to the pass of its driver.
use Rattle.std.proofs.Common.{◌≡◌, ℕ, Bool, true, false, List, [], ◌∷◌, ◌++◌, length, inl, inr, append_assoc}
use Rattle.std.proofs.Common.{◌⊎◌, None, Result, Ok, Err, OnOk, IfErr, OnErr, refl, sym, ap, ◌∙◌, subst, arith}
use Rattle.std.proofs.lemmas.List.{append-nil}
use Rattle.ov_ids.specs.ParamsState.{ParamsState}
use Rattle.ov_ids.specs.FaultOrder.{IsRefusedBy}
use Rattle.ov_snap.specs.Refusals.{BeginJudged, FilingJudged}
use Rattle.ov_snap.specs.ReportState.{ReportState}
use Rattle.ov_snap.specs.declared.refused_core_call.CoreFault.{CoreFault}
use Rattle.ov_snap.specs.declared.refused_core_call.CoreFault.TheVariants.{OutOfMemory}
use Rattle.ov_snap.specs.declared.kept_snapshots.Snapshot.{Snapshot}
use Rattle.ov_snap.specs.Logs.{core_made, mark}
use Rattle.ov_snap.specs.DriverSteps.{HasBegun, HasFiled, HasLooked}
use Rattle.ov_snap.specs.declared.ghost_log_of_drivers.Mark.{Mark}
use Rattle.ov_snap.specs.declared.ghost_log_of_drivers.Ticket.{Ticket}
use Rattle.ov_run_meaning.specs.Sections.{HasAnalysed, IsAccepted, IsRefused, IsRefusedAnalysis, IsReportOn, RunsLine}
use Rattle.ov_run_meaning.specs.Sections.{RunsSection, ToldLine, is_event, told_of}
use Rattle.ov_run_meaning.specs.declared.line_run_outcome.LineOutcome.{LineOutcome}
use Rattle.ov_run_meaning.specs.declared.line_run_outcome.LineOutcome.TheVariants.{Accepted, Refused}
use Rattle.ov_run_meaning.specs.declared.refusal.Refusal.{Refusal}
use Rattle.ov_run_meaning.specs.declared.refusal.Refusal.TheVariants.{World, Core}
use Rattle.ov_scenario.specs.declared.line_of_section.Deed.{Deed}
use Rattle.ov_scenario.specs.declared.line_of_section.Deed.TheVariants as deed
use Rattle.ov_scenario.specs.Sections.{SectionLine}

-- ---- the pass of one driver, which has seen more

abbrev pub Extends : Ticket → Ticket → Type 0
Extends p q = (q.driver ≡ p.driver) × ((later : List Mark) × (q.seen ≡ p.seen ++ later))

pub extends_self : (p : Ticket) → Extends p p
extends_self p = (refl, ([], sym (append-nil p.seen)))

pub extends_on : (p q r : Ticket) → Extends p q → Extends q r → Extends p r
extends_on p q r a b = (
  b.0 ∙ a.0,
  (a.1.0 ++ b.1.0, b.1.1 ∙ (ap (λ l. l ++ b.1.0) a.1.1 ∙ append_assoc p.seen a.1.0 b.1.0)),
)

looked_on : (p q : Ticket) → HasLooked p q → Extends p q
looked_on p q looked = (looked.0, (looked.1.0, looked.1.1))

-- its own mark came, after what came between
marked_on : (p q : Ticket) (before between : List Mark) (m : Mark) → before ≡ p.seen ++ between
    → q ≡ record { driver = p.driver; seen = before ++ m ∷ [] } → Extends p q
marked_on p q before between m is after = (
  ap (λ t. t.driver) after,
  (between ++ m ∷ [], ap (λ t. t.seen) after ∙ (ap (λ l. l ++ m ∷ []) is ∙ append_assoc p.seen between (m ∷ []))),
)

filed_on : (params : ParamsState) (p : Ticket) (r : ReportState) (q : Ticket) → HasFiled params p r q → Extends p q
filed_on params p r q filed =
    marked_on p q filed.before filed.between.0 (mark p.driver true filed.core) filed.between.1 filed.after

accepted_on : (params : ParamsState) (p : Ticket) (d : Deed) (q : Ticket) → IsAccepted params p d q → Extends p q
accepted_on params p (deed.Event event words) q (e, s) =
    marked_on p q s.before s.between.0 (mark p.driver false s.core) s.between.1 s.after
accepted_on params p (deed.Analyse m) q (r, begun, answered, filed) =
    extends_on p begun q (looked_on p begun answered.0) (filed_on params begun r q filed)

refused_on : (params : ParamsState) (p : Ticket) (d : Deed) (refusal : Refusal) (q : Ticket)
    → IsRefused params p d refusal q → Extends p q
refused_on params p (deed.Event event words) (World fault) q (is, looked) = looked_on p q looked
refused_on params p (deed.Event event words) (Core fault) q none = absurd none
refused_on params p (deed.Analyse m) (World fault) q none = absurd none
refused_on params p (deed.Analyse m) (Core fault) q (inl (is, looked)) = looked_on p q looked
refused_on params p (deed.Analyse m) (Core fault) q (inr (r, begun, answered, is, looked)) =
    extends_on p begun q (looked_on p begun answered.0) (looked_on begun q looked)

line_on : (params : ParamsState) (p : Ticket) (d : Deed) (outcome : LineOutcome) (q : Ticket)
    → RunsLine params p d outcome q → Extends p q
line_on params p d Accepted q does = accepted_on params p d q does
line_on params p d (Refused refusal) q is = refused_on params p d refusal q is

-- a section is of one driver, who has seen more at its end
pub section_on : (params : ParamsState) (p : Ticket) (lines : List SectionLine) (told : List ToldLine) (q : Ticket)
    → RunsSection params p lines told q → Extends p q
section_on params p [] told q (same, none) = subst (Extends p) (sym same) (extends_self p)
section_on params p (line ∷ lines) told q (next, outcome, others, first, rest, is) =
    extends_on p next q (line_on params p line.deed outcome next first) (section_on params next lines others q rest)

-- a line of these parts, and what is told of it
abbrev pub line_as : ℕ → List ℕ → Deed → SectionLine
line_as number text deed = record { number = number; text = text; deed = deed }

abbrev pub line_told : ℕ → List ℕ → Bool → LineOutcome → ToldLine
line_told number text event outcome =
    record { number = number; text = text; is_event = event; outcome = outcome }

-- what is told of a line that was taken apart
pub told_as : (number : ℕ) (text : List ℕ) (deed : Deed) (event : Bool) (outcome : LineOutcome) (line : SectionLine)
    → line_as number text deed ≡ line → event ≡ is_event deed
    → line_told number text event outcome ≡ told_of line outcome
told_as number text deed event outcome line same is =
    ap (λ e. line_told number text e outcome) is ∙ ap (λ l. told_of l outcome) same

-- ---- a section up to some line

-- this came of the lines up to the pass `now`, and these are left
abbrev pub SectionSoFar : ParamsState → Ticket → List SectionLine → Ticket → List SectionLine → List ToldLine → Type 0
SectionSoFar params p all now left said =
    (more : List ToldLine) (q : Ticket) → RunsSection params now left more q → RunsSection params p all (said ++ more) q

pub section_begun :
    (params : ParamsState) (p : Ticket) (all : List SectionLine) → SectionSoFar params p all p all []
section_begun params p all more q runs = runs

pub section_more : (params : ParamsState) (p : Ticket) (all : List SectionLine) (now : Ticket) (line : SectionLine)
    (left : List SectionLine) (said : List ToldLine) (one : ToldLine) (next : Ticket)
    → SectionSoFar params p all now (line ∷ left) said
    → (outcome : LineOutcome) × RunsLine params now line.deed outcome next × (one ≡ told_of line outcome)
    → SectionSoFar params p all next left (said ++ one ∷ [])
section_more params p all now line left said one next so_far (outcome, does, is) more q runs =
    subst (λ told. RunsSection params p all told q) (sym (append_assoc said (one ∷ []) more))
    (so_far (one ∷ more) q (next, outcome, more, does, runs, ap (λ t. t ∷ more) is))

pub section_ended : (params : ParamsState) (p : Ticket) (all : List SectionLine) (now : Ticket)
    (left : List SectionLine) (said : List ToldLine) → length left ≡ 0 → SectionSoFar params p all now left said
    → RunsSection params p all said now
section_ended params p all now [] said none so_far =
    subst (λ told. RunsSection params p all told now) (append-nil said) (so_far [] now (refl, refl))
section_ended params p all now (line ∷ left) said none so_far = absurd (omega (arith, none))

-- ---- an analysis

module _ (params : ParamsState) (begun : Ticket) (s : Snapshot) (q : Ticket) where
  -- its report was filed
  abbrev pub Files : Type 0
  Files = (r : ReportState) × IsReportOn s r × HasFiled params begun r q

  -- its report was not filed: there was no memory to make it, or its filing was refused
  abbrev pub FilesNot : CoreFault → Type 0
  FilesNot fault =
      ((fault ≡ OutOfMemory) × (q ≡ begun))
      ⊎ ((r : ReportState) × IsReportOn s r × IsRefusedBy OutOfMemory (FilingJudged (core_made params q.seen) r) fault
      × HasLooked begun q)

  pub files : {A : Type 0} (r : ReportState) (filed : Result A CoreFault) → IsReportOn s r
      → OnOk filed (HasFiled params begun r q) → OnOk filed Files
  files r (Ok u) on filed = (r, on, filed)
  files r (Err f) on filed = tt

  pub files_not : {A : Type 0} (r : ReportState) (filed : Result A CoreFault) → IsReportOn s r
      → IfErr filed (IsRefusedBy OutOfMemory (FilingJudged (core_made params q.seen) r))
      → OnErr filed (HasLooked begun q) → IfErr filed FilesNot
  files_not r (Ok u) on refused looked = tt
  files_not r (Err f) on refused looked = inr (r, on, refused, looked)

  module _ {A : Type 0} (p : Ticket) (m : ℕ) (looked : HasLooked p begun)
      (began : HasBegun (core_made params begun.seen) m s) where
    pub analysed : (filed : Result A CoreFault) → OnOk filed Files → OnOk filed (HasAnalysed params p m q)
    analysed (Ok u) (r, on, filed) = (r, begun, (looked, (s, began, on)), filed)
    analysed (Err f) filed = tt

    pub not_analysed : (filed : Result A CoreFault) → IfErr filed FilesNot
        → IfErr filed (λ fault. IsRefusedAnalysis params p m fault q)
    not_analysed (Ok u) refused = tt
    not_analysed (Err f) (inl (memory, same)) =
        inl (
          inr (memory, subst (λ (t : Ticket). BeginJudged (core_made params t.seen) m None) (sym same) began.judged),
          subst (HasLooked p) (sym same) looked,
        )
    not_analysed (Err f) (inr (r, on, refused, after)) = inr (r, begun, (looked, (s, began, on)), refused, after)
