-- what stands before the end so far, and in what is left
use Rattle.std.proofs.Common.{◌≡◌, ◌++◌, drop, take}
use Rattle.ov_lines.specs.FileKinds.{before, is_blank}
use Rattle.ov_lines.proofs.text_start.before_blank.Given as goal

abbrev pub invariant-loop-i : goal.invariant-loop-i
invariant-loop-i l = before is_blank l.text ≡ take l.i l.text ++ before is_blank (drop l.i l.text)
