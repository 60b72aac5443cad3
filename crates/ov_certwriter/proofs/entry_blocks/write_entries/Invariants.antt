-- the texts of the entries so far were written, and those that are left would make it whole; the first of these are in
-- the full blocks
use Rattle.std.proofs.Common.{◌≡◌, ◌++◌, ℕ, List, false, length}
use Rattle.std.specs.Io.KnownBytes.{Appends}
use Rattle.ov_certwriter.specs.Code.Blocks.{items_after, AreWithin, HoldParts}
use Rattle.ov_certwriter.proofs.entry_blocks.write_entries.Given as goal

abbrev pub invariant-loop-rest : goal.invariant-loop-rest
invariant-loop-rest g l = record {
  sent : (done : List ℕ)
      × Appends (g.W.Write.contents l.initial.sink.writer) (g.W.Write.contents l.sink.writer) done
      × (done ++ items_after g.T.Entry.as_data l.later l.rest ≡ items_after g.T.Entry.as_data false l.entries);
  parts : HoldParts g.T.Entry.as_data l.blocks.full.size l.later l.rest l.blocks.full.blocks.items;
  within : AreWithin g.T.Entry.paths_of l.blocks.full.room l.rest;
  room : l.blocks.full.room ≡ l.initial.blocks.full.room;
  faults : l.sink.faults ≡ l.initial.sink.faults;
}

abbrev pub decreases-loop-rest : goal.decreases-loop-rest
decreases-loop-rest g l = length l.rest
