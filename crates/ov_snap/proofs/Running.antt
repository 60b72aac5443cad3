-- A run of one more step, what every run makes, and that it keeps the reports.
use Rattle.std.proofs.Common.{◌≡◌, ◌≢◌, ◌⊎◌, List, [], ◌∷◌, ◌++◌, length, append-nil, append_assoc, Option, Some}
use Rattle.std.proofs.Common.{Result, Ok, Err, IfOk, IfErr, OnOk, OnErr, inl, inr, refl, sym, ap, ◌∙◌, subst}
use Rattle.ov_ids.specs.FaultOrder.{IsRefusedBy}
use Rattle.ov_net.specs.Refusals.{StepJudged}
use Rattle.ov_even.specs.Desk.{GroupDeskState}
use Rattle.ov_even.specs.Turns.{ClaimsNext, LooksNext, SettlesNext}
use Rattle.ov_snap.specs.CoreState.{CoreState, IsSound, KeepsReports}
use Rattle.ov_snap.specs.Filing.{WasFiled}
use Rattle.ov_snap.specs.Theorems.{EveryReportIsTrue, EveryReportStays}
use Rattle.ov_snap.specs.ReportState.{ReportState}
use Rattle.ov_snap.specs.Refusals.{DeskFilingJudged, FilingJudged, GroupOpeningJudged, OpeningJudged, TurnJudged}
use Rattle.ov_snap.specs.Run.{Takes, TakesAll, WasRefused}
use Rattle.ov_snap.specs.declared.refused_core_call.CoreFault.{CoreFault}
use Rattle.ov_snap.specs.declared.refused_core_call.CoreFault.TheVariants.{OutOfMemory}
use Rattle.ov_snap.specs.declared.core_steps.CoreStep.{CoreStep}
use Rattle.ov_snap.specs.declared.core_steps.CoreStep.TheVariants.{Net, File, OpenDesk, OpenGroupDesk, Claim}
use Rattle.ov_snap.specs.declared.core_steps.CoreStep.TheVariants.{Look, Settle, FileDesk}
use Rattle.ov_snap.proofs.DeskKeeping.{sound_desk_opened, sound_group_desk_opened, sound_claimed_at, sound_looked_at}
use Rattle.ov_snap.proofs.DeskKeeping.{sound_settled_at, sound_desk_filed}
use Rattle.ov_snap.proofs.Keeping.{sound_begun, sound_filed, sound_happened}

pub run_more : (b : CoreState) (steps : List CoreStep) (c : CoreState) (step : CoreStep) (d : CoreState)
    → TakesAll b steps c → Takes c step d → TakesAll b (steps ++ step ∷ []) d
run_more b [] c step d run more = (d, subst (λ (x : CoreState). Takes x step d) (sym run) more, refl)
run_more b (s ∷ steps) c step d run more = (run.0, run.1, run_more run.0 steps c step d run.2 more)

-- what was refused left all as it was
sound_refused : {E : Type 0} (b : CoreState) (Judged : Option E → Type 0) (u : CoreState) → IsSound b
    → WasRefused Judged b u → IsSound u
sound_refused b Judged u sound h = subst IsSound (sym h.1) sound

-- each step keeps a core sound
sound_next : (b : CoreState) (step : CoreStep) (u : CoreState) → IsSound b → Takes b step u → IsSound u
sound_next b (Net event words) u sound (inl h) = sound_happened b event words h.0 u sound h.1
sound_next b (Net event words) u sound (inr h) =
    sound_refused b (StepJudged b.world.net (length b.world.journal) event) u sound h
sound_next b (OpenDesk m workers) u sound (inl h) = sound_desk_opened b m workers h.0 u sound h.1
sound_next b (OpenDesk m workers) u sound (inr h) = sound_refused b (OpeningJudged b m workers) u sound h
sound_next b (OpenGroupDesk m q workers) u sound (inl h) =
    sound_group_desk_opened b m q.items workers h.0 u sound h.1
sound_next b (OpenGroupDesk m q workers) u sound (inr h) =
    sound_refused b (GroupOpeningJudged b m q.items workers) u sound h
sound_next b (Claim i w) u sound (inl h) = sound_claimed_at b i w h.0 u sound h.1
sound_next b (Claim i w) u sound (inr h) = sound_refused b (TurnJudged ClaimsNext b i w) u sound h
sound_next b (Look i w) u sound (inl h) = sound_looked_at b i w h.0 u sound h.1
sound_next b (Look i w) u sound (inr h) = sound_refused b (TurnJudged LooksNext b i w) u sound h
sound_next b (Settle i w) u sound (inl h) = sound_settled_at b i w u sound h
sound_next b (Settle i w) u sound (inr h) = sound_refused b (TurnJudged SettlesNext b i w) u sound h
sound_next b (FileDesk i) u sound (inl h) = sound_desk_filed b i u sound h
sound_next b (FileDesk i) u sound (inr h) = sound_refused b (DeskFilingJudged b i) u sound h
sound_next b (File r) u sound (inl h) = sound_filed b r u sound h
sound_next b (File r) u sound (inr h) = sound_refused b (FilingJudged b r) u sound h

sound_all : (b : CoreState) (steps : List CoreStep) (c : CoreState) → IsSound b → TakesAll b steps c → IsSound c
sound_all b [] c sound run = subst IsSound run sound
sound_all b (step ∷ steps) c sound run = sound_all run.0 steps c (sound_next b step run.0 sound run.1) run.2

pub every_report_is_true : EveryReportIsTrue
every_report_is_true params steps c run r filed =
    (sound_all _ steps c (sound_begun params) run).is_true r filed

-- THE REPORTS STAY

-- the same list keeps the reports
same_kept : (b u : CoreState) → u.reports ≡ b.reports → KeepsReports b u
same_kept b u same = ([], same ∙ sym (append-nil b.reports))

refused_kept : {E : Type 0} (b : CoreState) (Judged : Option E → Type 0) (u : CoreState) → WasRefused Judged b u
    → KeepsReports b u
refused_kept b Judged u h = same_kept b u (ap (λ (x : CoreState). x.reports) h.1)

filed_kept : (b : CoreState) (r : ReportState) (u : CoreState) → WasFiled b r u → KeepsReports b u
filed_kept b r u h = (r ∷ [], ap (λ (x : CoreState). x.reports) h.reports)

desk_kept : (b : CoreState) (desks : List GroupDeskState) (u : CoreState) → u ≡ record b { desks = desks }
    → KeepsReports b u
desk_kept b desks u is = same_kept b u (ap (λ (x : CoreState). x.reports) is)

-- each step keeps the reports
kept_next : (b : CoreState) (step : CoreStep) (u : CoreState) → Takes b step u → KeepsReports b u
kept_next b (Net event words) u (inl h) = same_kept b u h.1.reports
kept_next b (Net event words) u (inr h) =
    refused_kept b (StepJudged b.world.net (length b.world.journal) event) u h
kept_next b (OpenDesk m workers) u (inl h) = desk_kept b _ u h.1.desk.desks
kept_next b (OpenDesk m workers) u (inr h) = refused_kept b (OpeningJudged b m workers) u h
kept_next b (OpenGroupDesk m q workers) u (inl h) = desk_kept b _ u h.1.desk.desks
kept_next b (OpenGroupDesk m q workers) u (inr h) = refused_kept b (GroupOpeningJudged b m q.items workers) u h
kept_next b (Claim i w) u (inl h) = desk_kept b _ u h.1.turned.desks
kept_next b (Claim i w) u (inr h) = refused_kept b (TurnJudged ClaimsNext b i w) u h
kept_next b (Look i w) u (inl h) = desk_kept b _ u h.1.turned.desks
kept_next b (Look i w) u (inr h) = refused_kept b (TurnJudged LooksNext b i w) u h
kept_next b (Settle i w) u (inl h) = desk_kept b _ u h.turned.desks
kept_next b (Settle i w) u (inr h) = refused_kept b (TurnJudged SettlesNext b i w) u h
kept_next b (FileDesk i) u (inl h) = filed_kept b h.report u h.filed
kept_next b (FileDesk i) u (inr h) = refused_kept b (DeskFilingJudged b i) u h
kept_next b (File r) u (inl h) = filed_kept b r u h
kept_next b (File r) u (inr h) = refused_kept b (FilingJudged b r) u h

kept_on : (b u c : CoreState) → KeepsReports b u → KeepsReports u c → KeepsReports b c
kept_on b u c h k =
    (h.0 ++ k.0, k.1 ∙ ap (λ (l : List ReportState). l ++ k.0) h.1 ∙ append_assoc b.reports h.0 k.0)

kept_all : (b : CoreState) (steps : List CoreStep) (u : CoreState) → TakesAll b steps u → KeepsReports b u
kept_all b [] u run = same_kept b u (ap (λ (x : CoreState). x.reports) (sym run))
kept_all b (step ∷ steps) u run = kept_on b run.0 u (kept_next b step run.0 run.1) (kept_all run.0 steps u run.2)

pub every_report_stays : EveryReportStays
every_report_stays b steps u run = kept_all b steps u run

-- A CALL AND ITS STEP

module _ {X : Type 0} (Judged : Option CoreFault → Type 0) (b u : CoreState) where
  -- a call that was not out of memory did what it does, or the first applicable refusal left all as it was
  pub taken : (r : Result X CoreFault) (Did : X → Type 0) → IfOk r Did → IfErr r (IsRefusedBy OutOfMemory Judged)
      → OnErr r (u ≡ b) → IfErr r (λ f. f ≢ OutOfMemory) → ((x : X) × Did x) ⊎ WasRefused Judged b u
  taken (Ok x) Did did refused err went = inl (x, did)
  taken (Err f) Did did (inl stands) err went = inr ((f, stands), err)
  taken (Err f) Did did (inr out) err went = absurd (went out.0)

  -- the same of a call that answers nothing
  pub done : (r : Result X CoreFault) (Did : Type 0) → OnOk r Did → IfErr r (IsRefusedBy OutOfMemory Judged)
      → OnErr r (u ≡ b) → IfErr r (λ f. f ≢ OutOfMemory) → Did ⊎ WasRefused Judged b u
  done (Ok x) Did did refused err went = inl did
  done (Err f) Did did (inl stands) err went = inr ((f, stands), err)
  done (Err f) Did did (inr out) err went = absurd (went out.0)

  -- the same of a call that allocates nothing
  pub taken_at_once : (r : Result X CoreFault) (Did : X → Type 0) → IfOk r Did → IfErr r (λ f. Judged (Some f))
      → OnErr r (u ≡ b) → ((x : X) × Did x) ⊎ WasRefused Judged b u
  taken_at_once (Ok x) Did did refused err = inl (x, did)
  taken_at_once (Err f) Did did refused err = inr ((f, refused), err)

-- what a step is known to be once it went on
pub went_on : {X E : Type 0} (r : Result X E) (P : Type 0) (step is : CoreStep) (b u : CoreState) → step ≡ is → OnOk r P
    → (P → Takes b is u) → OnOk r (Takes b step u)
went_on (Ok x) P step is b u same p f = subst (λ (s : CoreStep). Takes b s u) (sym same) (f p)
went_on (Err e) P step is b u same p f = tt

-- what holds anyway holds of an error
pub on_err : {X E : Type 0} (r : Result X E) (P : Type 0) → P → OnErr r P
on_err (Ok x) P p = tt
on_err (Err e) P p = p
