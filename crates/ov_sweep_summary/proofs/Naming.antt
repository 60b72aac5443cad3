-- The names of the options that tell settings apart, among the rows of the options' table.
use Rattle.std.proofs.Common.{◌≡◌, ◌∙◌, ℕ, List, [], ◌∷◌, map, refl, sym, ap}
use Rattle.std.specs.List.{filter}
use Rattle.ov_grow_options.specs.CommandLine.{is_of_setting, name_and_default, named_options, option_names}
use Rattle.ov_grow_options.specs.CommandLine.{options_named, setting_names}
use Rattle.ov_grow_options.specs.declared.option_table.OptionRow.{OptionRow}

-- those that these rows have
abbrev pub settings_in : List OptionRow → List (List ℕ)
settings_in rows = filter is_of_setting (map (λ row. row.name.now) rows)

names : map (λ option. option.0) named_options ≡ option_names
unfolding options_named
names = refl

-- a row says its name and its default
named : (rows : List OptionRow) → map (λ option. option.0) (map name_and_default rows) ≡ map (λ row. row.name.now) rows
named [] = refl
named (row ∷ rows) = ap (λ more. row.name.now ∷ more) (named rows)

-- the rows of the whole table have all
pub begun : (rows : List OptionRow) → map name_and_default rows ≡ named_options → settings_in rows ≡ setting_names
begun rows same = ap (filter is_of_setting) (sym (named rows) ∙ ap (map (λ option. option.0)) same ∙ names)
