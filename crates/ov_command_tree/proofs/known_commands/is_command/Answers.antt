-- The commands that read files are those that `clap` knows.
use Rattle.std.proofs.Common.{◌∙◌, ap}
use Rattle.ov_command_tree.specs.CommandNames.{reads_file}
use Rattle.ov_command_tree.proofs.Naming.{file_command}
use Rattle.ov_command_tree.proofs.known_commands.is_command.Goals as goal

pub returns : goal.returns
returns c = c.reads_file.ensures ∙ ap reads_file c.named.ensures ∙ file_command c.args.word.now
