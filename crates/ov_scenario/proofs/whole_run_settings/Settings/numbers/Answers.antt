-- The parameters given, those past their limits, and none.
use Rattle.std.proofs.Common.{rules, ◌≡◌, ◌∙◌, None, sym, subst}
use Rattle.ov_scenario.specs.Scenarios.{AreParamsOf}
use Rattle.ov_scenario.proofs.Scenarios.Settled.{params_given, params_beyond, no_params}
use Rattle.ov_scenario.proofs.whole_run_settings.Settings.numbers.Goals as goal

pub returns-in-Some-params_within_limits : goal.returns-in-Some-params_within_limits
returns-in-Some-params_within_limits c = λ lines right same.
    params_given lines c.in-Some.numbers c.in-Some-params_within_limits.params (sym same ∙ c.in-Some.is)
    c.in-Some-params_within_limits.ensures.within

pub returns-in-None : goal.returns-in-None
returns-in-None c = λ lines right same.
    params_beyond lines c.in-Some.numbers c.default_params-in-None.result right (sym same ∙ c.in-Some.is)
    c.in-None.ensures.beyond

pub returns-in_default : goal.returns-in_default
returns-in_default c = λ lines right same.
    let none : c.args.self.now.params ≡ None = search rules in
    subst (λ p. AreParamsOf lines p) (sym c.default_params.ensures) (no_params lines (sym same ∙ none))
