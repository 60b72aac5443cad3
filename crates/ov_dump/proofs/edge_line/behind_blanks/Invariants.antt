-- what is behind the bytes that are left is behind all
use Rattle.std.proofs.Common.{◌≡◌, length}
use Rattle.ov_dump.specs.EdgeLines.{is_blank}
use Rattle.ov_dump.specs.Code.Reading.{behind}
use Rattle.ov_dump.proofs.edge_line.behind_blanks.Given as goal

abbrev pub invariant-loop-first : goal.invariant-loop-first
invariant-loop-first l = behind is_blank l.left ≡ behind is_blank l.text

abbrev pub decreases-loop-first : goal.decreases-loop-first
decreases-loop-first l = length l.left
