-- the text so far, with the characters that are left, is that of the whole name
use Rattle.std.proofs.Common.{◌≡◌, ◌++◌, string_bytes, length, IsUtf8}
use Rattle.std.specs.Str.{chars}
use Rattle.std.specs.Str.Iter.{chars_rest}
use Rattle.ov_dump.specs.ShownNames.{shown_chars, shown_text}
use Rattle.ov_dump.proofs.names_shown_on_one_line.shown_name.Given as goal

abbrev pub invariant-loop-c : goal.invariant-loop-c
invariant-loop-c l = record {
  shown : string_bytes l.text ++ shown_chars (chars (chars_rest l.left)) ≡ shown_text l.name;
  utf8 : IsUtf8 (chars_rest l.left);
}

abbrev pub decreases-loop-c : goal.decreases-loop-c
decreases-loop-c l = length (chars_rest l.left)
