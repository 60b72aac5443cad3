-- what is left, behind what was put, is the whole list, and there is room for it
use Rattle.std.proofs.Common.{◌≡◌, ◌≤◌, ◌+◌, ◌++◌, take, drop, length}
use Rattle.ov_certwriter.specs.Code.Blocks.{items_after, entries_room}
use Rattle.ov_certwriter.proofs.entry_blocks.put_entries.Given as goal

abbrev pub invariant-loop-entry : goal.invariant-loop-entry
invariant-loop-entry g l = record {
  text : take l.end l.out ++ items_after g.T.Entry.as_data l.later (drop l.entry-index l.entries)
      ≡ items_after g.T.Entry.as_data l.initial.later l.entries;
  room : l.end + entries_room g.T.Entry.paths_of (drop l.entry-index l.entries) ≤ length l.out;
  kept : length l.out ≡ length l.initial.out;
}
