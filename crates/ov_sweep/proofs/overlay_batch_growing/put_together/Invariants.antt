-- There is a row for each run so far, at its place.
use Rattle.std.proofs.Common.{◌≡◌, ℕ, length, slice_get, Some}
use Rattle.std.specs.Prelude.{Ok}
use Rattle.ov_sweep_rows.specs.declared.row.Row.{Row}
use Rattle.ov_sweep.specs.Sweeps.{IsOutcomeAt}
use Rattle.ov_sweep.proofs.overlay_batch_growing.put_together.Given as goal

abbrev pub invariant-loop-place : goal.invariant-loop-place
invariant-loop-place l = record {
  count : length l.rows.items ≡ l.place;
  each : (i : ℕ) (row : Row) → slice_get l.rows.items i ≡ Some row → IsOutcomeAt l.fn.measures l.fn.batch i (Ok row);
}
