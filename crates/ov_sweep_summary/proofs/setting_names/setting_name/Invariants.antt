-- what is left of the table decides
use Rattle.std.proofs.Common.{◌≡◌, [], drop}
use Rattle.std.specs.Prelude.{get_or}
use Rattle.ov_grow_options.specs.CommandLine.{setting_names}
use Rattle.ov_sweep_summary.proofs.Naming.{settings_in}
use Rattle.ov_sweep_summary.proofs.setting_names.setting_name.Given as goal

abbrev pub invariant-loop-row : goal.invariant-loop-row
invariant-loop-row l =
    get_or (settings_in (drop l.row-index l.rows)) l.left [] ≡ get_or setting_names l.place []
