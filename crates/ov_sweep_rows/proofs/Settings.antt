-- The columns of a setting have the names of its options, in the order of the options' table: so the option at a place
-- among those that tell settings apart is the one of the cell at this place.
use Rattle.std.proofs.Common.{◌≡◌, ◌++◌, ◌==◌, ℕ, if◌then◌else◌, map, refl, take}
use Rattle.ov_grow_options.specs.CommandLine.{setting_names}
use Rattle.ov_sweep_rows.specs.Columns.{further_columns, option_columns}

-- a name in rows: a low line stands for a hyphen
abbrev in_rows : ℕ → ℕ
in_rows byte = if byte == 45 then 95 else byte

settings_named : map (map in_rows) setting_names ≡ map (λ column. column.0) (take 18 option_columns ++ further_columns)
settings_named = refl
