-- The commands of the table.
use Rattle.std.proofs.Common.{◌≡◌, ◌∙◌}
use Rattle.std.proofs.lemmas.Result.{IfOk-weaker}
use Rattle.clap.specs.Words.{app_of}
use Rattle.ov_command_tree.specs.Commands.{overlay_command}
use Rattle.ov_command_tree.proofs.Adding.{below_equal}
use Rattle.ov_command_tree.proofs.clap_commands_and_help.command.Goals as goal

pub returns : goal.returns
returns c =
    IfOk-weaker c.with_commands.result _ (λ r. app_of r ≡ overlay_command)
    (λ r is. below_equal _ _ _ _ is c.in_ok-none.ensures ∙ c.file_commands.ensures) c.with_commands.ensures
