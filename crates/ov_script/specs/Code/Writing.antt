-- How much room a line that is written takes at most, and how large its numbers are.
use Rattle.std.specs.Prelude.{ℕ, ◌+◌, ◌*◌, ◌<◌, List, length, Some, None}
use Rattle.ov_ids.specs.Limits.{number_limit}
use Rattle.ov_script.specs.declared.recordable_event.Act.{Act}
use Rattle.ov_script.specs.declared.recordable_event.Act.TheVariants as act

-- how many bytes a number takes at most, with the space before it: chosen here
abbrev pub number_room : ℕ
number_room = 21

-- how many bytes of room are enough for the line of any act or analysis, with its line feed: chosen here
abbrev pub line_room : ℕ
line_room = 80

-- how many bytes a name takes, and this many numbers after it, at most
abbrev pub room_of : List ℕ → List ℕ → ℕ
room_of name numbers = length name + number_room * length numbers

-- how many bytes the line of parameters takes at most, with its line feed
abbrev pub params_room : ℕ
params_room = 160

-- how many bytes the line of a rule at DISCONNECT takes at most, with its line feed
abbrev pub rule_room : ℕ
rule_room = 14

-- how many bytes the line of a scale takes at most, with its line feed
abbrev pub scale_room : ℕ
scale_room = 12

-- each number of an act is below 2^32
abbrev pub IsShort : Act → Type 0
IsShort (act.Boot node None) = node < number_limit
IsShort (act.Boot node (Some contact)) = (node < number_limit) × (contact < number_limit)
IsShort (act.Deliver place) = place < number_limit
IsShort (act.Lose place) = place < number_limit
IsShort (act.Repeat place) = place < number_limit
IsShort (act.Crash node) = node < number_limit
IsShort (act.CrashReport node crashed) = (node < number_limit) × (crashed < number_limit)
IsShort (act.Shuffle node) = node < number_limit
IsShort (act.Broadcast node) = node < number_limit
IsShort (act.Timer node id) = (node < number_limit) × (id.origin < number_limit) × (id.seq < number_limit)
IsShort act.Snapshot = Unit {0}
