use Rattle.std.proofs.Common.{◌≡◌, ◌-◌, ◌≤◌, ◌++◌, length, vec_capacity}
use Rattle.ov_hall.specs.Passes.{first_seen, seen_alike}
use Rattle.ov_hall.proofs.driver_passes.Stand.part.Given as goal

abbrev pub invariant-loop-driver : goal.invariant-loop-driver
invariant-loop-driver g l =
    (length l.passes.items ≡ l.driver)
    × (l.drivers ≤ vec_capacity l.passes)
    × (l.passes.items ++ l.self ≡ l.fn.self)
    × (l.self ≡ seen_alike l.driver (l.drivers - l.driver) (first_seen l.fn.self))
