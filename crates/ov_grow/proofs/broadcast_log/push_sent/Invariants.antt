-- the marks so far, and those of the packets that are left
use Rattle.std.proofs.Common.{◌≡◌, ◌-◌, ◌++◌, drop, length}
use Rattle.ov_grow.specs.BroadcastLog.{sent_marks}
use Rattle.ov_grow.proofs.broadcast_log.push_sent.Given as goal

abbrev pub invariant-loop-packet : goal.invariant-loop-packet
invariant-loop-packet l =
    l.marks.items ++ sent_marks (drop l.place l.packets.items)
    ≡ l.fn.marks.items ++ sent_marks (drop l.from l.packets.items)

abbrev pub decreases-loop-packet : goal.decreases-loop-packet
decreases-loop-packet l = length l.packets.items - l.place
