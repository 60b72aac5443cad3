-- what was read, and then what is left
use Rattle.std.proofs.Common.{◌≡◌, ◌++◌, false, drop}
use Rattle.ov_dot.specs.Names.{unquoted}
use Rattle.ov_dot.proofs.name_reading.unquoted.Given as goal

abbrev pub invariant-loop-byte : goal.invariant-loop-byte
invariant-loop-byte l = l.text.items ++ unquoted l.behind_backslash (drop l.byte-index l.inner) ≡ unquoted false l.inner
