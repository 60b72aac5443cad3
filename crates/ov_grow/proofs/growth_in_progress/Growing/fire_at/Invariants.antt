use Rattle.std.proofs.Common.{Bool, ◌||◌, drop}
use Rattle.ov_grow.specs.Broadcasts.{FireAt}
use Rattle.ov_grow.specs.Code.Standing.{Goes}
use Rattle.ov_grow.specs.declared.growth_in_progress.Growing.{Growing}
use Rattle.ov_grow.proofs.NoBroadcast.{LeftAt}
use Rattle.ov_grow.proofs.growth_in_progress.Growing.fire_at.Given as goal

abbrev pub invariant-loop-id : goal.invariant-loop-id
invariant-loop-id l =
    ((others : Bool) (u : Growing) → Goes (λ s v. FireAt l.node (drop l.id-index l.messages) s others v) l.self u
    → Goes (λ s v. FireAt l.node l.messages s (l.fired || others) v) l.initial.self u)
    × LeftAt l.node l.messages (drop l.id-index l.messages) l.initial.self l.self
