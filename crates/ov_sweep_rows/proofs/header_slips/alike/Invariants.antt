use Rattle.std.proofs.Common.{◌≡◌, ◌<◌, ℕ}
use Rattle.csv.specs.Records.{fields_of}
use Rattle.ov_sweep_rows.specs.Fields.{text_at}
use Rattle.ov_sweep_rows.proofs.header_slips.alike.Given as goal

abbrev pub invariant-loop-place : goal.invariant-loop-place
invariant-loop-place l =
    (i : ℕ) → i < l.place → text_at (fields_of l.one) i ≡ text_at (fields_of l.other) i
