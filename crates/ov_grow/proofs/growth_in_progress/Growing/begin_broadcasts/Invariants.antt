use Rattle.std.proofs.Common.{◌-◌, List, ◌++◌}
use Rattle.ov_ids.specs.declared.id.MsgId.{MsgId}
use Rattle.ov_grow.specs.Broadcasts.{BroadcastsBegin}
use Rattle.ov_grow.specs.Code.Standing.{AllLive, Goes, growth_of}
use Rattle.ov_grow.specs.declared.growth_in_progress.Growing.{Growing}
use Rattle.ov_grow.proofs.Making.{HasRoom}
use Rattle.ov_grow.proofs.NoBroadcast.{AreLeft}
use Rattle.ov_grow.proofs.growth_in_progress.Growing.begin_broadcasts.Given as goal

abbrev pub invariant-loop-broadcast : goal.invariant-loop-broadcast
invariant-loop-broadcast l =
    ((rest : List MsgId) (u : Growing)
    → Goes (λ s v. BroadcastsBegin l.sender l.nodes (l.count - l._broadcast) s rest v) l.self u
    → Goes (λ s v. BroadcastsBegin l.sender l.nodes l.count s (l.messages.items ++ rest) v) l.initial.self u)
    × AreLeft (BroadcastsBegin l.sender l.nodes) l.count (l.count - l._broadcast) l.initial.self l.self
    × AllLive l.nodes (growth_of l.self)
    × HasRoom l.count l._broadcast (growth_of l.self)
