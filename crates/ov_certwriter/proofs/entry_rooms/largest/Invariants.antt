-- none of the numbers so far is above the largest
use Rattle.std.proofs.Common.{◌≤◌, take, All}
use Rattle.ov_certwriter.proofs.entry_rooms.largest.Given as goal

abbrev pub invariant-loop-number : goal.invariant-loop-number
invariant-loop-number l = All (λ number. number ≤ l.largest) (take l.number-index l.numbers)
