-- with the commands that are left, the command is the one with all of them
use Rattle.std.proofs.Common.{◌≡◌, drop}
use Rattle.clap.specs.Words.{app_of}
use Rattle.ov_command_tree.specs.Code.Options.{with_commands}
use Rattle.ov_command_tree.proofs.clap_commands_and_help.with_commands.Given as goal

abbrev pub invariant-loop-row : goal.invariant-loop-row
invariant-loop-row l = with_commands (app_of l.command) (drop l.row-index l.rows)
    ≡ with_commands (app_of l.fn.command) l.rows
