-- with the bytes that are left, the comment is whole; there is room for them
use Rattle.std.proofs.Common.{◌≡◌, ◌≤◌, ◌+◌, ◌++◌, drop, map, codes}
use Rattle.ov_script.specs.WrittenLines.{within_line}
use Rattle.ov_script.proofs.line_writing.write_comment.Given as goal

abbrev pub invariant-loop-byte : goal.invariant-loop-byte
invariant-loop-byte l = record {
  items : l.text.items ++ map within_line (drop l.byte-index l.said)
      ≡ l.fn.text.items ++ (codes "# " ++ map within_line l.said);
  len : l.text.len ≡ l.fn.text.len + 2 + l.byte-index;
  capacity : l.fn.text.cap ≤ l.text.cap;
}
