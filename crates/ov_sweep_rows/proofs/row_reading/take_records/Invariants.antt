use Rattle.std.proofs.Common.{ℕ, List}
use Rattle.ov_sweep_rows.specs.Code.Standing.{IsUnread}
use Rattle.ov_sweep_rows.proofs.RowByRow.{Reads}
use Rattle.ov_sweep_rows.proofs.row_reading.take_records.Given as goal

abbrev pub invariant-loop-record : goal.invariant-loop-record
invariant-loop-record l =
    (text : List ℕ) → IsUnread text l.fn.records.rdr l.fn.records.left
    → Reads l.header.form text l.record-iterator.rdr l.record-iterator.left l.rows.items
