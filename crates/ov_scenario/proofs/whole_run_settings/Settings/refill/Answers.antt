-- The rule given, and none.
use Rattle.std.proofs.Common.{◌∙◌, sym}
use Rattle.ov_ids.specs.declared.refill_rule.Refill.TheVariants.{Never}
use Rattle.ov_scenario.specs.Code.Judging.{refill_in}
use Rattle.ov_scenario.specs.declared.statement.Statement.TheVariants as says
use Rattle.ov_scenario.proofs.Scenarios.Settled.{gives_refill, none_set, set_given}
use Rattle.ov_scenario.proofs.whole_run_settings.Settings.refill.Goals as goal

pub returns-in-Some : goal.returns-in-Some
returns-in-Some c = λ lines same.
    set_given says.Refill refill_in Never gives_refill lines c.in-Some.rule (sym same ∙ c.in-Some.is)

pub returns-in-None : goal.returns-in-None
returns-in-None c = λ lines same. none_set says.Refill refill_in Never gives_refill lines (sym same ∙ c.in-None.is)
