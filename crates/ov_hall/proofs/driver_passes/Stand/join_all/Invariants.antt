use Rattle.std.proofs.Common.{◌≡◌, ◌++◌}
use Rattle.ov_hall.proofs.driver_passes.Stand.join_all.Given as goal

abbrev pub invariant-loop-pass : goal.invariant-loop-pass
invariant-loop-pass g l = l.self ++ l.pass-iterator.rest.items ≡ l.fn.self ++ l.fn.passes.items
