-- The commands of the table.
use Rattle.std.proofs.Common.{refl}
use Rattle.ov_command_tree.specs.Code.Options.{with_commands, with_options}
use Rattle.ov_command_tree.proofs.clap_commands_and_help.file_commands.Goals as goal

pub returns : goal.returns
unfolding with_commands with_options
returns c = refl
