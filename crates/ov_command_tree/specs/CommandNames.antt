-- The names of the commands.
use Rattle.std.specs.Prelude.{ℕ, Bool, true, false, List, Option, Some, None, find, is_some}
use Rattle.clap.specs.Simple.{label_of}
use Rattle.clap.specs.Walk.{answers_to}
use Rattle.ov_command_tree.specs.Commands.{overlay_command}
use Rattle.ov_command_tree.specs.declared.help_and_version.CommandTopic.{CommandTopic}
use Rattle.ov_command_tree.specs.declared.help_and_version.CommandTopic.TheVariants.{Grow, Sweep}

-- a command that arguments may give has this name
abbrev pub is_command : List ℕ → Bool
is_command word = is_some (find (λ s. answers_to word (label_of s)) overlay_command.subs)

-- it is a command, and none of those that grow overlays
abbrev pub reads_file : Option CommandTopic → Bool
reads_file None = false
reads_file (Some Grow) = false
reads_file (Some Sweep) = false
reads_file (Some command) = true
