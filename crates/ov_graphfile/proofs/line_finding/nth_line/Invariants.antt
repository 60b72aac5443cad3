-- of the lines that are left the one that is looked for stands behind so many others of its kind
use Rattle.std.proofs.Common.{length}
use Rattle.ov_graphfile.proofs.GraphFiles.Finding.{Finds}
use Rattle.ov_graphfile.proofs.line_finding.nth_line.Given as goal

abbrev pub invariant-loop-line : goal.invariant-loop-line
invariant-loop-line l = Finds l.fn.bytes l.fn.kind l.fn.at l.before l.lines

abbrev pub decreases-loop-line : goal.decreases-loop-line
decreases-loop-line l = length l.lines
