-- with the numbers that are left, the line is whole; there is room for them
use Rattle.std.proofs.Common.{◌≡◌, ◌≤◌, ◌+◌, ◌*◌, ◌++◌, length, drop}
use Rattle.ov_script.specs.WrittenLines.{line_of, numerals, spaced}
use Rattle.ov_script.specs.Code.Writing.{number_room, room_of}
use Rattle.ov_script.proofs.line_writing.write_words.Given as goal

abbrev pub invariant-loop-number : goal.invariant-loop-number
invariant-loop-number l = record {
  items : l.text.items ++ spaced (numerals (drop l.number-index l.numbers))
      ≡ l.fn.text.items ++ line_of l.name (numerals l.numbers);
  room : l.text.len + number_room * length l.numbers ≤ l.fn.text.len + room_of l.name l.numbers
      + number_room * l.number-index;
  capacity : l.fn.text.cap ≤ l.text.cap;
}
