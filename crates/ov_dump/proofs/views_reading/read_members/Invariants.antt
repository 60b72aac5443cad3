-- what the members so far say
use Rattle.std.proofs.Common.{◌+◌, drop}
use Rattle.json.specs.Value.{members_view}
use Rattle.ov_dump.proofs.Viewing.{ReadsOn}
use Rattle.ov_dump.proofs.views_reading.read_members.Given as goal

abbrev pub invariant-loop-place : goal.invariant-loop-place
invariant-loop-place l =
    ReadsOn (members_view l.members) (l.place + 1) l.parts.entries.items l.parts.listings.items
    (members_view (drop l.place l.members))
