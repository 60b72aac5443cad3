use Rattle.std.proofs.Common.{◌≡◌, [], take}
use Rattle.csv.specs.Records.{fields_of, partial_of}
use Rattle.ov_sweep_rows.proofs.Named.{names_of}
use Rattle.ov_sweep_rows.proofs.row_writing.names_of.Given as goal

abbrev pub invariant-loop-column : goal.invariant-loop-column
invariant-loop-column l =
    (fields_of l.names ≡ names_of (take l.column-index l.columns)) × (partial_of l.names ≡ [])
