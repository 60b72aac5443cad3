-- What the code keeps of the log of broadcasts.
use Rattle.std.specs.Prelude.{ℕ, ◌-◌, if◌then◌else◌, List, Option, Some, None}
use Rattle.ov_net.specs.declared.event.Event.{Event}
use Rattle.ov_net.specs.declared.event.Event.TheVariants as event
use Rattle.ov_grow.specs.declared.broadcast_log.BroadcastLog.{BroadcastLog}
use Rattle.ov_grow.specs.declared.broadcast_log.BroadcastMark.{BroadcastMark}

-- the log, if one is kept
abbrev pub log_of : BroadcastLog → Option (List BroadcastMark)
log_of l = if l.kept then Some l.marks.items else None

-- the place of the first packet that was sent by an event, if so many were on their way before it, and so many after it
abbrev pub first_new : Event → ℕ → ℕ → ℕ
first_new (event.Deliver place) before after = before - 1
first_new (event.Lose place) before after = after
first_new (event.Repeat place) before after = after
first_new other before after = before
