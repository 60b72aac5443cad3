-- the first text of the lines that are left is that of all
use Rattle.std.proofs.Common.{◌≡◌, length}
use Rattle.ov_lines.specs.Lines.{kept_lines}
use Rattle.ov_lines.specs.FileKinds.{first_text}
use Rattle.ov_lines.proofs.text_start.first_text.Given as goal

abbrev pub invariant-loop-line : goal.invariant-loop-line
invariant-loop-line l = first_text l.left ≡ first_text (kept_lines l.bytes)

abbrev pub decreases-loop-line : goal.decreases-loop-line
decreases-loop-line l = length l.left
