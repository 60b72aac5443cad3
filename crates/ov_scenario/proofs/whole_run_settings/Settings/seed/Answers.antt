-- The seed given, and none.
use Rattle.std.proofs.Common.{◌∙◌, sym}
use Rattle.ov_scenario.specs.Code.Judging.{seed_in}
use Rattle.ov_scenario.specs.declared.statement.Statement.TheVariants as says
use Rattle.ov_scenario.proofs.Scenarios.Settled.{gives_seed, none_set, set_given}
use Rattle.ov_scenario.proofs.whole_run_settings.Settings.seed.Goals as goal

pub returns-in-Some : goal.returns-in-Some
returns-in-Some c = λ lines same.
    set_given says.Seed seed_in 0 gives_seed lines c.in-Some.seed (sym same ∙ c.in-Some.is)

pub returns-in-None : goal.returns-in-None
returns-in-None c = λ lines same. none_set says.Seed seed_in 0 gives_seed lines (sym same ∙ c.in-None.is)
