-- The text says the scenario.
use Rattle.std.proofs.Common.{subst}
use Rattle.ov_scenario.specs.Scenarios.{IsScenario}
use Rattle.ov_script.specs.Scripts.{scenario_of}
use Rattle.ov_script.proofs.KeepingText.{script_says}
use Rattle.ov_script.proofs.scenario_written_line_by_line.Script.seed.Goals as goal

pub returns-clause-says : goal.returns-clause-says
returns-clause-says c =
    let s = c.self.inside in
    subst (λ v. IsScenario v.text (scenario_of v)) c.self.view_is
    (script_says _ s.params s.seed s.next _ c.self.invariant)
