use Rattle.std.proofs.Common.{◌≡◌}
use Rattle.std.specs.Prelude.{string_bytes}
use Rattle.ov_io.specs.Name.{shown_chars}
use Rattle.ov_io.proofs.file_name_texts.shown_name.Given as goal

abbrev pub invariant-loop-c : goal.invariant-loop-c
invariant-loop-c l = string_bytes l.text ≡ shown_chars l.yielded
