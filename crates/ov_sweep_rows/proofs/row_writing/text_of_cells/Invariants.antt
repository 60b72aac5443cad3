use Rattle.std.proofs.Common.{◌≡◌, [], map, take}
use Rattle.csv.specs.Records.{fields_of, partial_of}
use Rattle.ov_sweep_rows.specs.Cells.{cell_text}
use Rattle.ov_sweep_rows.proofs.row_writing.text_of_cells.Given as goal

abbrev pub invariant-loop-cell : goal.invariant-loop-cell
invariant-loop-cell l =
    (fields_of l.fields ≡ map cell_text (take l.cell-index l.cells)) × (partial_of l.fields ≡ [])
