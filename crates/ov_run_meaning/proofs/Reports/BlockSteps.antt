-- What a block did are steps of a core.
use Rattle.std.proofs.Common.{◌≡◌, ◌∙◌, Bool, true, false, List, [], ◌∷◌, inl, sym, ap, subst}
use Rattle.ov_snap.specs.CoreState.{CoreState, opening_core}
use Rattle.ov_snap.specs.Run.{TakesAll}
use Rattle.ov_snap.specs.declared.core_steps.CoreStep.{CoreStep}
use Rattle.ov_snap.specs.declared.core_steps.CoreStep.TheVariants.{Net, File}
use Rattle.ov_snap.specs.Logs.{AreSteps, core_after, core_made}
use Rattle.ov_snap.specs.declared.ghost_log_of_drivers.Mark.{Mark}
use Rattle.ov_snap.proofs.DriverLogs.{Steps}
use Rattle.ov_snap.proofs.DriverLogs.{core_append, steps_behind}
use Rattle.ov_run_meaning.specs.Sections.{RunTogether, ToldLine}
use Rattle.ov_scenario.specs.Sections.{SectionLine}

-- some steps make the second core of the first
abbrev pub Leads : CoreState → CoreState → Type 0
Leads b u = (steps : List CoreStep) × TakesAll b steps u

-- a mark was made, and steps follow
mark_leads : (filed : Bool) (b next u : CoreState) → Steps filed b next → Leads next u → Leads b u
mark_leads true b next u (r, filed) leads = (File r ∷ leads.0, (next, inl filed, leads.1))
mark_leads false b next u (what, words, e, happened) leads =
    (Net what words ∷ leads.0, (next, inl (e, happened), leads.1))

marks_lead : (b : CoreState) (more : List Mark) (u : CoreState) → AreSteps b more → Leads (core_after b more) u
    → Leads b u
marks_lead b [] u steps leads = leads
marks_lead b (m ∷ ms) u steps leads =
    mark_leads m.filed b m.after u steps.0 (marks_lead m.after ms u steps.1 leads)

-- a block ran, and steps follow
pub block_leads : (b : CoreState) (sections : List (List SectionLine)) (next : CoreState) (told : List ToldLine)
    (u : CoreState) → RunTogether b sections next told → Leads next u → Leads b u
block_leads b sections next told u ran leads =
    let start = opening_core ran.params in
    let steps = steps_behind start ran.seen ran.more (subst (AreSteps start) ran.goes_on ran.is_log.steps) in
    let to : core_after (core_made ran.params ran.seen) ran.more ≡ next =
    sym (core_append start ran.seen ran.more) ∙ (ap (core_after start) (sym ran.goes_on) ∙ ran.after) in
    subst (λ (x : CoreState). Leads x u) ran.before
    (marks_lead (core_made ran.params ran.seen) ran.more u steps (subst (λ (x : CoreState). Leads x u) (sym to) leads))
