-- What is printed of a report is so: lines that ran are steps of a core.
use Rattle.std.proofs.Common.{◌≡◌, ◌⊎◌, inl, inr, ℕ, List, [], ◌∷◌, ◌++◌, refl, sym, subst}
use Rattle.ov_ids.specs.Members.{Has}
use Rattle.ov_ids.proofs.Members.{has_append_right}
use Rattle.ov_snap.specs.CoreState.{CoreState, opening_core}
use Rattle.ov_snap.specs.ReportState.{ReportState, IsTrueReport}
use Rattle.ov_snap.specs.Filing.{WasFiled}
use Rattle.ov_snap.specs.Refusals.{number_of}
use Rattle.ov_snap.specs.declared.core_steps.CoreStep.TheVariants.{Net, File}
use Rattle.ov_snap.proofs.Running.{every_report_is_true, run_more}
use Rattle.ov_run_meaning.proofs.Reports.BlockSteps.{Leads, block_leads}
use Rattle.ov_run_meaning.specs.Theorems.{EveryPrintedReportIsTrue, IsMade, IsSoOf, Refuses}
use Rattle.ov_run_meaning.specs.Printed.{report_line, file_text}
use Rattle.ov_run_meaning.specs.Running.{PrintsCertificate, PrintsLine, PrintsLines, PrintsReportLine}
use Rattle.ov_scenario.specs.declared.scenario.Line.{Line}
use Rattle.ov_scenario.specs.declared.scenario.Line.TheVariants as line
use Rattle.ov_scenario.specs.declared.scenario.Subject.{Subject}

-- nothing changed, and steps follow
rests : (b next u : CoreState) → next ≡ b → Leads next u → Leads b u
rests b next u same leads = subst (λ (x : CoreState). Leads x u) same leads

-- a line ran, and steps follow
line_leads : (b : CoreState) (line : Line) (next : CoreState) (own : List ℕ) (u : CoreState)
    → PrintsLine b line next own
    → Leads next u → Leads b u
line_leads b (line.Event event words) next own u (inl (e, happened, is)) leads =
    (Net event words ∷ leads.0, (next, inl (e, happened), leads.1))
line_leads b (line.Event event words) next own u (inr (fault, refused, same, is)) leads = rests b next u same leads
line_leads b (line.Look look) next own u prints leads = rests b next u prints.0 leads
line_leads b (line.Analyse subject workers) next own u (inl (r, analysed, is)) leads =
    (File r ∷ leads.0, (next, inl analysed.filed, leads.1))
line_leads b (line.Analyse subject workers) next own u (inr (fault, refused, same, is)) leads =
    rests b next u same leads
line_leads b (line.Together sections) next own u (told, runs) leads =
    block_leads b sections next told u runs.0 leads

-- lines ran in order, and steps follow
lines_on : (b : CoreState) (lines : List Line) (next : CoreState) (text : List ℕ) (u : CoreState)
    → PrintsLines b lines next text → Leads next u → Leads b u
lines_on b [] next text u prints leads = rests b next u prints.0 leads
lines_on b (line ∷ lines) next text u (mid, own, others, first, rest, is) leads =
    line_leads b line mid own u first (lines_on mid lines next others u rest leads)

lines_lead : (b : CoreState) (lines : List Line) (u : CoreState) (text : List ℕ) → PrintsLines b lines u text
    → Leads b u
lines_lead b lines u text prints = lines_on b lines u text u prints ([], refl)

-- a report that was filed is among the reports
among : (b : CoreState) (r : ReportState) (u : CoreState) → WasFiled b r u → Has u.reports r
among b r u filed =
    subst (λ (x : CoreState). Has x.reports r) (sym filed.reports) (has_append_right b.reports (r ∷ []) r (inl refl))

-- what an analysis prints
analysed : (b : CoreState) (subject : Subject) (u : CoreState) (text : List ℕ) → IsMade b
    → PrintsReportLine b subject u text
    → ((r : ReportState) × IsSoOf u subject r × (text ≡ report_line r.moment r.cert r.graph r.members))
    ⊎ Refuses b u text
analysed b subject u text made (inl (r, was, is)) =
    let run = lines_lead (opening_core made.0) made.1 b made.2 made.3 in
    let more = run_more (opening_core made.0) run.0 b (File r) u run.1 (inl was.filed) in
    let so = every_report_is_true made.0 (run.0 ++ File r ∷ []) u more r (among b r u was.filed) in
    inl (r, record { is_true = so; moment = was.moment; members = was.members }, is)
analysed b subject u text made (inr (fault, refused, same, is)) = inr (number_of fault, same, is)

-- what a look at a certificate prints
certified : (b : CoreState) (subject : Subject) (u : CoreState) (text : List ℕ) → IsMade b → u ≡ b
    → PrintsCertificate b subject text
    → ((r : ReportState) × IsSoOf u subject r × (text ≡ file_text r.cert r.graph r.members r.moment)) ⊎ Refuses b u text
certified b subject u text made same (inl (r, filed, inl is)) =
    let run = lines_lead (opening_core made.0) made.1 b made.2 made.3 in
    let so = every_report_is_true made.0 run.0 b run.1 r filed.filed in
    let own = subst (λ (x : CoreState). IsTrueReport x.world.journal r) (sym same) so in
    inl (r, record { is_true = own; moment = filed.moment; members = filed.members }, is)
certified b subject u text made same (inl (r, filed, inr is)) = inr (99, same, is)
certified b subject u text made same (inr (none, is)) = inr (50, same, is)

-- after any line
filed : (b : CoreState) (line : Line) (u : CoreState) (text : List ℕ) → IsMade b → PrintsLine b line u text
    → (r : ReportState) → Has u.reports r → IsTrueReport u.world.journal r
filed b line u text made prints r has =
    let last = line_leads b line u text u prints ([], refl) in
    let run = lines_on (opening_core made.0) made.1 b made.2 u made.3 last in
    every_report_is_true made.0 run.0 u run.1 r has

pub every_printed_report_is_true : EveryPrintedReportIsTrue
every_printed_report_is_true = record {
  analysed = λ b subject workers u text made prints. analysed b subject u text made prints;
  certified = λ b subject u text made prints. certified b subject u text made prints.0 prints.1;
  filed = filed;
}
