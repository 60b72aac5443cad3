-- What is left decides.
use Rattle.std.proofs.Common.{◌≡◌, length, map, string_bytes}
use Rattle.ov_command_tree.specs.Telling.{ask_for_help}
use Rattle.ov_command_tree.proofs.help_and_version.ask_for_help.Given as goal

abbrev pub invariant-loop-word : goal.invariant-loop-word
invariant-loop-word l =
    ask_for_help (map (λ word. string_bytes word) l.left) ≡ ask_for_help (map (λ word. string_bytes word) l.words)

abbrev pub decreases-loop-word : goal.decreases-loop-word
decreases-loop-word l = length l.left
