-- the lines that are written, and those that are left
use Rattle.std.proofs.Common.{◌≡◌, ◌++◌, drop}
use Rattle.ov_script.specs.Code.Kept.{written}
use Rattle.ov_script.proofs.line_writing.write_lines.Given as goal

abbrev pub invariant-loop-line : goal.invariant-loop-line
invariant-loop-line l = l.text.items ++ written (drop l.line-index l.lines) ≡ l.fn.text.items ++ written l.lines
