use Rattle.std.proofs.Common.{◌≡◌, [], replicate}
use Rattle.ov_even.specs.Code.KeptDesk.{pieces_in}
use Rattle.ov_even.proofs.group_desk.empty_hauls.Given as goal

abbrev pub invariant-loop : goal.invariant-loop
invariant-loop l = pieces_in l.hauls.items ≡ replicate l.counter []
