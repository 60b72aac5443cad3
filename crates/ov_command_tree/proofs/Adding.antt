-- Commands and options that are added one by one.
use Rattle.std.proofs.Common.{◌≡◌, ◌∙◌, ℕ, List, [], ◌∷◌, true, false, codes, refl, ap, ap₂, sym}
use Rattle.std.proofs.Common.{◌+◌, ◌<◌, drop, get_or, length}
use Rattle.std.proofs.lemmas.List.{at_drop_more}
use Rattle.clap.proofs.SimpleLemmas.{is_false}
use Rattle.clap.proofs.WalkLemmas.{both}
use Rattle.clap.specs.Words.{AddsArg, AddsSubcommand, App, Rule, app_of, new_app, new_rule, rule_of, with_rule}
use Rattle.clap.specs.Words.{with_subcommand}
use Rattle.clap.specs.declared.builder.arg.Arg.{Arg}
use Rattle.clap.specs.declared.builder.command.Command.{Command}
use Rattle.ov_command_tree.specs.Code.Options.{app_of_row, rule_of_option, with_commands, with_options}
use Rattle.ov_command_tree.specs.declared.clap_commands_and_help.CommandRow.{CommandRow}
use Rattle.ov_command_tree.specs.declared.clap_commands_and_help.OptionRow.{OptionRow}

-- one argument more
pub with_one_more : (old new : Command) (arg : Arg) (app : App) (rule : Rule) → AddsArg old arg new → arg.global ≡ false
    → app_of old ≡ app → rule_of arg ≡ rule
    → app_of new ≡ with_rule app rule
with_one_more old new arg app rule adds own is same = adds.shape own ∙ ap₂ with_rule is same

-- one subcommand more
pub with_subcommand_more : (old sub new : Command) (app own : App) → AddsSubcommand old sub new → app_of old ≡ app
    → app_of sub ≡ own → own.top.is_plain ≡ true
    → app_of new ≡ with_subcommand app own.top
with_subcommand_more old sub new app own adds is same plain =
    let told : (app_of sub).top.is_plain ≡ true = ap (λ (a : App). a.top.is_plain) same ∙ plain in
    adds.shape (is_false _ (both _ _ (both _ _ (both _ _ told).1).1).0)
    ∙ ap₂ with_subcommand is (ap (λ (a : App). a.top) same)

-- one option more: of a command to which those of a list are added, from a place on
pub one_option_more : (app : App) (rows : List OptionRow) (i : ℕ) (d : OptionRow) → i < length rows
    → with_options (with_rule app (rule_of_option (get_or rows i d))) (drop (i + 1) rows)
    ≡ with_options app (drop i rows)
unfolding with_options
one_option_more app rows i d within = sym (at_drop_more (with_options app) rows i d within)

-- options leave a command as plain as it was
options_plain : (app : App) (rows : List OptionRow) → (with_options app rows).top.is_plain ≡ app.top.is_plain
unfolding with_options
options_plain app [] = refl
options_plain app (row ∷ rows) = options_plain (with_rule app (rule_of_option row)) rows

-- a command with a file and options is plain
pub file_and_options_plain : (name : List ℕ) (rows : List OptionRow)
    → (with_options (with_rule (new_app name) (new_rule (codes "file"))) rows).top.is_plain ≡ true
file_and_options_plain name rows = options_plain (with_rule (new_app name) (new_rule (codes "file"))) rows

-- one command more: of a command to which those of a list are added, from a place on
pub one_command_more : (app : App) (rows : List CommandRow) (i : ℕ) (d : CommandRow) → i < length rows
    → with_commands (with_subcommand app (app_of_row (get_or rows i d)).top) (drop (i + 1) rows)
    ≡ with_commands app (drop i rows)
unfolding with_commands
one_command_more app rows i d within = sym (at_drop_more (with_commands app) rows i d within)

-- what has the commands of a list below one command has them below an equal one
pub below_equal : (app own all : App) (rows : List CommandRow) → all ≡ with_commands app rows → app ≡ own
    → all ≡ with_commands own rows
below_equal app own all rows is same = is ∙ ap (λ a. with_commands a rows) same
