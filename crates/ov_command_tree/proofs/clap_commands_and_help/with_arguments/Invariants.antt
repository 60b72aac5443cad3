-- with the options that are left, the command is the one with all of them
use Rattle.std.proofs.Common.{◌≡◌, codes, drop}
use Rattle.clap.specs.Words.{app_of, new_app, new_rule, with_rule}
use Rattle.ov_command_tree.specs.Code.Options.{with_options}
use Rattle.ov_command_tree.proofs.clap_commands_and_help.with_arguments.Given as goal

abbrev pub invariant-loop-row : goal.invariant-loop-row
invariant-loop-row l = with_options (app_of l.command) (drop l.row-index l.options)
    ≡ with_options (with_rule (new_app l.name) (new_rule (codes "file"))) l.options
