use Rattle.std.proofs.Common.{◌<◌, ◌≢◌, ℕ}
use Rattle.std.specs.Prelude.{get_or}
use Rattle.csv.specs.Records.{fields_of}
use Rattle.ov_sweep_rows.specs.Columns.{columns}
use Rattle.ov_sweep_rows.proofs.Forms.{all_forms, plain_form}
use Rattle.ov_sweep_rows.proofs.row_reading.header_of.Given as goal

abbrev pub invariant-loop-form : goal.invariant-loop-form
invariant-loop-form l =
    (k : ℕ) → k < l.form-index → fields_of l.fields ≢ columns (get_or all_forms k plain_form)
