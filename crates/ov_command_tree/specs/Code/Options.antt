-- The commands and their options, as the code lists them.
use Rattle.std.specs.Prelude.{ℕ, List, [], ◌∷◌, Some, codes, true}
use Rattle.clap.specs.Simple.{on_top}
use Rattle.clap.specs.Words.{App, Rule, new_app, new_rule, with_rule, with_subcommand}
use Rattle.ov_command_tree.specs.declared.clap_commands_and_help.CommandRow.{CommandRow}
use Rattle.ov_command_tree.specs.declared.clap_commands_and_help.OptionRow.{OptionRow}

-- a command of this name without options, which is no word of its own
abbrev pub app_alone : List ℕ → App
app_alone name = on_top (λ s. record s { no_binary_name = true }) (new_app name)

-- what a row says of an option
abbrev pub rule_of_option : OptionRow → Rule
rule_of_option row = record (new_rule row.name.now) { long = Some row.name.now; action = Some row.action }

-- the command with these options more, in order
unfoldable pub with_options : App → List OptionRow → App
with_options app [] = app
with_options app (row ∷ rows) = with_options (with_rule app (rule_of_option row)) rows

-- what a row says of a command
abbrev pub app_of_row : CommandRow → App
app_of_row row = with_options (with_rule (new_app row.name.now) (new_rule (codes "file"))) row.options.now

-- the command with these commands more below it, in order
unfoldable pub with_commands : App → List CommandRow → App
with_commands app [] = app
with_commands app (row ∷ rows) = with_commands (with_subcommand app (app_of_row row).top) rows
