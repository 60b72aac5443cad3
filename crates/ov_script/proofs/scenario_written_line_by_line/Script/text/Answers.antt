-- The text says the scenario.
use Rattle.std.proofs.Common.{◌∙◌, ap, ap₂, ◌++◌, subst, sym}
use Rattle.ov_scenario.specs.Scenarios.{IsScenario}
use Rattle.ov_script.specs.Scripts.{opening, scenario_of}
use Rattle.ov_script.specs.Code.Kept.{text_of, written}
use Rattle.ov_script.proofs.KeepingText.{script_says}
use Rattle.ov_script.proofs.scenario_written_line_by_line.Script.text.Goals as goal

pub returns-clause-value : goal.returns-clause-value
unfolding text_of
returns-clause-value c =
    let s = c.self.inside in
    c.in_ok-write_lines.ensures
    ∙ ap₂ (λ a b. a ++ b)
    (c.in_ok-text.ensures ∙ ap (λ h. opening h s.params s.seed) c.as_slice.ensures)
    (ap (λ ls. written ls) c.deref.ensures.value)
    ∙ ap (λ v. v.text) c.self.view_is

pub returns-clause-says : goal.returns-clause-says
returns-clause-says c =
    let s = c.self.inside in
    subst (λ t. IsScenario t (scenario_of c.args.self.now)) (sym (returns-clause-value c))
    (subst (λ v. IsScenario v.text (scenario_of v)) c.self.view_is
    (script_says _ s.params s.seed s.next _ c.self.invariant))
