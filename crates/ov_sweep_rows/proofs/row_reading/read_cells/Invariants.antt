use Rattle.std.proofs.Common.{◌≡◌, Some, map, take}
use Rattle.csv.specs.Records.{fields_of}
use Rattle.ov_sweep_rows.specs.Cells.{cells_read}
use Rattle.ov_sweep_rows.proofs.row_reading.read_cells.Given as goal

abbrev pub invariant-loop-place : goal.invariant-loop-place
invariant-loop-place l =
    cells_read (take l.place (map (λ column. column.takes) l.columns)) (take l.place (fields_of l.fields))
    ≡ Some l.cells.items
