-- what is behind the bytes that are left is behind all
use Rattle.std.proofs.Common.{◌≡◌, length}
use Rattle.ov_lines.specs.FileKinds.{behind_blanks}
use Rattle.ov_lines.proofs.text_start.behind_blanks.Given as goal

abbrev pub invariant-loop-first : goal.invariant-loop-first
invariant-loop-first l = behind_blanks l.left ≡ behind_blanks l.text

abbrev pub decreases-loop-first : goal.decreases-loop-first
decreases-loop-first l = length l.left
