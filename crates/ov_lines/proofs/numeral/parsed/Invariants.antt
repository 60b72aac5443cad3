-- the digits that are left, after the number so far, spell the number; the word is all digits if what is left is
use Rattle.std.proofs.Common.{◌≡◌, drop}
use Rattle.std.specs.Str.Parse.{AllDigits, digits_value_after, digits_value}
use Rattle.ov_lines.proofs.numeral.parsed.Given as goal

abbrev pub invariant-loop-byte : goal.invariant-loop-byte
invariant-loop-byte l = record {
  value : digits_value_after 10 l.number (drop l.byte-index l.word) ≡ digits_value 10 l.word;
  read : AllDigits 10 (drop l.byte-index l.word) → AllDigits 10 l.word;
  left : AllDigits 10 l.word → AllDigits 10 (drop l.byte-index l.word);
}
