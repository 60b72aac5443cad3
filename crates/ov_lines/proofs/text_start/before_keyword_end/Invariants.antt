-- what stands before the end so far, and in what is left
use Rattle.std.proofs.Common.{◌≡◌, ◌++◌, drop, take}
use Rattle.ov_lines.specs.FileKinds.{before, ends_keyword}
use Rattle.ov_lines.proofs.text_start.before_keyword_end.Given as goal

abbrev pub invariant-loop-i : goal.invariant-loop-i
invariant-loop-i l = before ends_keyword l.text ≡ take l.i l.text ++ before ends_keyword (drop l.i l.text)
