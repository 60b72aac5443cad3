-- the texts of the parts so far were written, and those of the items that are left would make it whole
use Rattle.std.proofs.Common.{◌≡◌, ◌*◌, ◌++◌, ◌||◌, ℕ, List, nat_lt, drop}
use Rattle.std.specs.Io.KnownBytes.{Appends}
use Rattle.ov_certwriter.specs.Code.Blocks.{items_after}
use Rattle.ov_certwriter.proofs.entry_blocks.write_blocks.Given as goal

abbrev pub invariant-loop-block : goal.invariant-loop-block
invariant-loop-block g l = record {
  sent : (done : List ℕ)
      × Appends (g.W.Write.contents l.initial.sink.writer) (g.W.Write.contents l.sink.writer) done
      × (done ++ items_after g.T.Entry.as_data (nat_lt 0 l.block-index || l.later)
      (drop (l.block-index * l.blocks.size) l.entries) ≡ items_after g.T.Entry.as_data l.later l.entries);
  faults : l.sink.faults ≡ l.initial.sink.faults;
}
