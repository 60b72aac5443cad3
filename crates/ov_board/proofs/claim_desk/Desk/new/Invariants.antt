use Rattle.std.proofs.Common.{◌≡◌, replicate}
use Rattle.ov_board.specs.Claims.{fresh}
use Rattle.ov_board.proofs.claim_desk.Desk.new.Given as goal

abbrev pub invariant-loop : goal.invariant-loop
invariant-loop l = l.fresh.items ≡ replicate l.counter fresh
