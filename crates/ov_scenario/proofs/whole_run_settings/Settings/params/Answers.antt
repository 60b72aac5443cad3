-- The numbers of the parameters, the rule and the scale.
use Rattle.std.proofs.Common.{◌∙◌, ap, sym, subst}
use Rattle.ov_ids.specs.ParamsState.{ParamsState}
use Rattle.ov_scenario.specs.Scenarios.{AreParamsOf}
use Rattle.ov_scenario.proofs.Scenarios.Settled.{with_settings}
use Rattle.ov_scenario.proofs.whole_run_settings.Settings.params.Goals as goal

pub returns-clause-params : goal.returns-clause-params
returns-clause-params c = λ lines right same.
    let scale = c.scale.result in
    let is = c.with_scale.ensures ∙ ap (λ (p : ParamsState). record p { scale = scale }) c.with_refill.ensures in
    subst (λ p. AreParamsOf lines p) (sym is)
    (with_settings lines c.numbers-numbers.result c.refill.result scale (c.numbers-numbers.ensures lines right same))
