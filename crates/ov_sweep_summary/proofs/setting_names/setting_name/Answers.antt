-- At first all of the table is left.
use Rattle.std.proofs.Common.{[], ap}
use Rattle.std.specs.Prelude.{get_or}
use Rattle.ov_sweep_summary.proofs.Naming.{begun}
use Rattle.ov_sweep_summary.proofs.setting_names.setting_name.Goals as goal

pub loop-row-init : goal.loop-row-init
loop-row-init c = ap (λ names. get_or names c.args.place []) (begun _ c.growing_options-rows.ensures)
