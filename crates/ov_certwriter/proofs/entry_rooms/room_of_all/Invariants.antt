-- what no room of the entries so far is above: if no room of those that are left is above it, no room is
use Rattle.std.proofs.Common.{◌≤◌, ◌<◌, ◌-◌, ◌^◌, ℕ, drop}
use Rattle.ov_certwriter.specs.Code.Blocks.{AreWithin}
use Rattle.ov_certwriter.proofs.entry_rooms.room_of_all.Given as goal

abbrev pub invariant-loop-entry : goal.invariant-loop-entry
invariant-loop-entry g l = (most : ℕ) → l.largest ≤ most → most < 2 ^ 64 - 1
    → AreWithin g.T.Entry.paths_of most (drop l.entry-index l.entries) → AreWithin g.T.Entry.paths_of most l.entries
