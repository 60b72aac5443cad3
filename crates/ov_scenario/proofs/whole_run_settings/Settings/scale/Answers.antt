-- The scale given, and none.
use Rattle.std.proofs.Common.{◌∙◌, sym}
use Rattle.ov_ids.specs.declared.world_scale.Scale.TheVariants.{Profile}
use Rattle.ov_scenario.specs.Code.Judging.{scale_in}
use Rattle.ov_scenario.specs.declared.statement.Statement.TheVariants as says
use Rattle.ov_scenario.proofs.Scenarios.Settled.{gives_scale, none_set, set_given}
use Rattle.ov_scenario.proofs.whole_run_settings.Settings.scale.Goals as goal

pub returns-in-Some : goal.returns-in-Some
returns-in-Some c = λ lines same.
    set_given says.Scale scale_in Profile gives_scale lines c.in-Some.scale (sym same ∙ c.in-Some.is)

pub returns-in-None : goal.returns-in-None
returns-in-None c = λ lines same. none_set says.Scale scale_in Profile gives_scale lines (sym same ∙ c.in-None.is)
