-- Each setting begins a scenario.
use Rattle.std.proofs.Common.{◌≡◌, [], map, refl}
use Rattle.ov_lines.specs.FileKinds.{setting_names}
use Rattle.ov_scenario.specs.Statements.{setting_rows}

-- the settings that lines can say are those by which a file is taken for a scenario
pub each_setting_begins : map (λ row. row.0) (setting_rows []) ≡ setting_names
each_setting_begins = refl
