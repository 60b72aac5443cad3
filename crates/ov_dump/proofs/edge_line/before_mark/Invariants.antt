-- what stands before the mark so far, and in what is left
use Rattle.std.proofs.Common.{◌≡◌, ◌++◌, drop, take, true}
use Rattle.ov_dump.specs.EdgeLines.{before_mark}
use Rattle.ov_dump.proofs.edge_line.before_mark.Given as goal

abbrev pub invariant-loop-i : goal.invariant-loop-i
invariant-loop-i l = before_mark true l.line ≡ take l.i l.line ++ before_mark l.begins (drop l.i l.line)
