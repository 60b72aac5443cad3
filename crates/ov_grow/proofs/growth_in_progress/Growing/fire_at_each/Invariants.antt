use Rattle.std.proofs.Common.{Bool, ◌||◌, drop}
use Rattle.ov_grow.specs.Broadcasts.{FireAtEach}
use Rattle.ov_grow.specs.Code.Standing.{Goes}
use Rattle.ov_grow.specs.declared.growth_in_progress.Growing.{Growing}
use Rattle.ov_grow.proofs.NoBroadcast.{LeftAtEach}
use Rattle.ov_grow.proofs.growth_in_progress.Growing.fire_at_each.Given as goal

abbrev pub invariant-loop-node : goal.invariant-loop-node
invariant-loop-node l =
    ((others : Bool) (u : Growing)
    → Goes (λ s v. FireAtEach (drop l.node-index l.nodes) l.messages s others v) l.self u
    → Goes (λ s v. FireAtEach l.nodes l.messages s (l.fired || others) v) l.initial.self u)
    × LeftAtEach l.nodes (drop l.node-index l.nodes) l.messages l.initial.self l.self
