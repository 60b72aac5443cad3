-- The acts of a script: the event that each one is, and the line that says it.
use Rattle.std.specs.Prelude.{ℕ, List, [], ◌∷◌, codes, decimal, Some, None}
use Rattle.ov_net.specs.declared.event.Event.{Event}
use Rattle.ov_net.specs.declared.event.Event.TheVariants as event
use Rattle.ov_script.specs.WrittenLines.{line_of, numerals}
use Rattle.ov_script.specs.declared.recordable_event.Act.{Act}
use Rattle.ov_script.specs.declared.recordable_event.Act.TheVariants as act

-- the event that an act is; the payload of a broadcast is empty
abbrev pub event_of : Act → Event
event_of (act.Boot node contact) = event.Boot node contact
event_of (act.Deliver place) = event.Deliver place
event_of (act.Lose place) = event.Lose place
event_of (act.Repeat place) = event.Repeat place
event_of (act.Crash node) = event.Crash node
event_of (act.CrashReport node crashed) = event.CrashReport node crashed
event_of (act.Shuffle node) = event.Shuffle node
event_of (act.Broadcast node) = event.Broadcast node []
event_of (act.Timer node id) = event.Timer node id
event_of act.Snapshot = event.Snapshot

-- the line of an act
unfoldable pub act_line : Act → List ℕ
act_line (act.Boot node None) = line_of (codes "boot") (numerals (node ∷ []))
act_line (act.Boot node (Some contact)) =
    line_of (codes "boot") (decimal node ∷ codes "by" ∷ decimal contact ∷ [])
act_line (act.Deliver place) = line_of (codes "deliver") (numerals (place ∷ []))
act_line (act.Lose place) = line_of (codes "lose") (numerals (place ∷ []))
act_line (act.Repeat place) = line_of (codes "repeat") (numerals (place ∷ []))
act_line (act.Crash node) = line_of (codes "crash") (numerals (node ∷ []))
act_line (act.CrashReport node crashed) = line_of (codes "report") (numerals (node ∷ crashed ∷ []))
act_line (act.Shuffle node) = line_of (codes "shuffle") (numerals (node ∷ []))
act_line (act.Broadcast node) = line_of (codes "broadcast") (numerals (node ∷ []))
act_line (act.Timer node id) = line_of (codes "timer") (numerals (node ∷ id.origin ∷ id.seq ∷ []))
act_line act.Snapshot = line_of (codes "snapshot") []
