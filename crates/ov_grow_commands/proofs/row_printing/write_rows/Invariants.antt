-- no write failed so far, and the lines of the rows before this place went to the writer
use Rattle.std.proofs.Common.{◌≡◌}
use Rattle.ov_sweep_rows.specs.Writing.{row_line}
use Rattle.ov_grow_commands.proofs.Lines.{Went}
use Rattle.ov_grow_commands.proofs.row_printing.write_rows.Given as goal

abbrev pub invariant-loop-row : goal.invariant-loop-row
invariant-loop-row g l = record {
  faults : l.sink.faults ≡ l.fn.sink.faults;
  lines : Went (row_line l.form) l.rows l.row-index (g.W.Write.contents l.fn.sink.writer)
      (g.W.Write.contents l.sink.writer);
}
