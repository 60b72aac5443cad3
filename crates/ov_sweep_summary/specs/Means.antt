-- What runs have of a measure after a phase, in parts of 10,000, and the mean of that.
use Rattle.std.specs.Prelude.{ℕ, ◌*◌, ◌/◌, ◌==◌, if◌then◌else◌, List, [], ◌∷◌, ◌++◌, length, sum, slice_get}
use Rattle.std.specs.Prelude.{Option, Some, None, option_and_then, option_to_list}
use Rattle.ov_sweep_rows.specs.declared.cell.Cell.{Cell}
use Rattle.ov_sweep_rows.specs.declared.cell.Cell.TheVariants as cell
use Rattle.ov_sweep_rows.specs.declared.four_decimals.FourDecimals.{FourDecimals}
use Rattle.ov_sweep_rows.specs.declared.measured.Measured.{Measured}
use Rattle.ov_sweep_rows.specs.declared.row.Phase.{Phase}
use Rattle.ov_sweep_rows.specs.declared.row.Row.{Row}
use Rattle.ov_sweep_rows.specs.Cells.{cell_at, fitting}
use Rattle.ov_sweep_rows.specs.RowCells.{measured_cells}
use Rattle.ov_sweep_rows.specs.Rows.{place_of}

-- the number of a cell, in parts of 10,000, if 64 bits count them
abbrev pub parts_of : Cell → Option ℕ
parts_of (cell.Number number) = fitting (number * 10000)
parts_of (cell.Decimals number) = Some number.parts
parts_of other = None

-- what a run has after a phase, at a place among the cells of what is measured
abbrev pub parts_after : Phase → Measured → ℕ → Row → Option ℕ
parts_after phase measured place run =
    option_and_then (λ p. parts_of (cell_at (measured_cells measured p) place)) (slice_get run.phases (place_of phase))

-- what runs have there after a phase, those that have something
abbrev pub known_after : Phase → Measured → ℕ → List Row → List ℕ
known_after phase measured place [] = []
known_after phase measured place (run ∷ more) =
    option_to_list (parts_after phase measured place run) ++ known_after phase measured place more

-- the most parts that a number can have, of 64 bits
abbrev pub most_parts : ℕ
most_parts = 18446744073709551615

-- the mean of so many numbers with this sum, rounded down; there is none without numbers
abbrev pub mean_of : ℕ → ℕ → Option FourDecimals
mean_of total count = if count == 0 then None else Some (record { parts = total / count })

-- the mean of what runs have there after a phase, over those that have something
abbrev pub mean_after : Phase → Measured → ℕ → List Row → Option FourDecimals
mean_after phase measured place runs =
    mean_of (sum (known_after phase measured place runs)) (length (known_after phase measured place runs))
