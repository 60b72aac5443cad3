use Rattle.std.proofs.Common.{◌≡◌, ◌++◌, length}
use Rattle.ov_wire.specs.Code.Reading.{ids_in}
use Rattle.ov_wire.proofs.reading.ids_of.Given as goal

abbrev pub invariant-loop-number : goal.invariant-loop-number
invariant-loop-number l = l.ids.items ++ ids_in l.left ≡ ids_in l.fn.bytes

abbrev pub decreases-loop-number : goal.decreases-loop-number
decreases-loop-number l = length l.left
