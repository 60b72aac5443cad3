-- Sweeps: what comes of many runs, in the order of their options, and of what is measured of each. Chosen here.
use Rattle.std.specs.Prelude.{◌≡◌, ℕ, List, length, slice_get, take, ◌++◌, Option, Some, None, Result, Ok, Err}
use Rattle.std.specs.Prelude.{IfErr, IfOk, MatchResult, ⊤}
use Rattle.std.specs.Iterator.{Drains, Yields}
use Rattle.ov_grow_options.specs.declared.options.GrowOptions.{GrowOptions}
use Rattle.ov_grow.specs.Growing.{IsGrowRefusalFrom, begins}
use Rattle.ov_grow.specs.declared.fault.GrowFault.{GrowFault}
use Rattle.ov_sweep_rows.specs.declared.measures.Measures.{Measures}
use Rattle.ov_sweep_rows.specs.declared.row.Row.{Row}
use Rattle.ov_sweep.specs.Rows.{IsRowOf}
use Rattle.ov_sweep.specs.declared.overlay_batch_growing.RefusedRun.{RefusedRun}
use Rattle.ov_sweep.specs.declared.sweep_fault.SweepFault.{SweepFault}
use Rattle.ov_sweep.specs.declared.sweep_fault.SweepFault.TheVariants.{Run}

-- a run with these options is refused, whose broadcasts are logged if it is asked for what they cost
abbrev pub IsRunRefusal : Measures → GrowOptions → GrowFault → Type 0
IsRunRefusal m o fault = IsGrowRefusalFrom (begins m.costs o) o fault

-- the run at this place of the batch came to this: a row of its options, or growing with them was refused
abbrev pub IsOutcomeAt : Measures → List GrowOptions → ℕ → Result Row GrowFault → Type 0
IsOutcomeAt m batch i x =
    (o : GrowOptions) × (slice_get batch i ≡ Some o) × IfOk x (λ row. IsRowOf m o row) × IfErr x (IsRunRefusal m o)

-- each of these rows is that of the options at its place
abbrev pub AreFirstRowsOf : Measures → List GrowOptions → List Row → Type 0
AreFirstRowsOf m batch rows = (i : ℕ) (row : Row) → slice_get rows i ≡ Some row → IsOutcomeAt m batch i (Ok row)

-- these rows are all that the batch has, or growing with the options behind them was refused
abbrev pub EndsAt : Measures → List GrowOptions → List Row → Option RefusedRun → Type 0
EndsAt m batch rows None = length rows ≡ length batch
EndsAt m batch rows (Some refused) =
    (slice_get batch (length rows) ≡ Some refused.options) × IsRunRefusal m refused.options refused.fault

-- the rows of a batch: each is that of the options at its place, and they end before a run that was refused
pub record AreRowsOf (m : Measures) (batch : List GrowOptions) (rows : List Row) (refused : Option RefusedRun) : Type
    0 where
  pub each : AreFirstRowsOf m batch rows
  pub ends : EndsAt m batch rows refused

-- a taker that had taken the rows `old`, if its value says them, has taken these too
abbrev pub WereTaken : List Row → Option (List Row) → Option (List Row) → Type 0
WereTaken rows None new = ⊤
WereTaken rows (Some old) None = ⊥
WereTaken rows (Some old) (Some new) = new ≡ old ++ rows

-- these rows were given to a taker: it took all of them, or the first ones and ended with a fault, which is that of no
-- run
abbrev pub WereGiven : List Row → Option (List Row) → Option (List Row) → Result (Unit {0}) SweepFault → Type 0
WereGiven rows old new (Ok done) = WereTaken rows old new
WereGiven rows old new (Err (Run refused)) = ⊥
WereGiven rows old new (Err other) = (n : ℕ) × WereTaken (take n rows) old new

-- how a sweep of these runs ended, and that these rows are those that were to be taken until then: of all runs; of
-- those before the first that was refused; or of some first ones
abbrev pub EndsWith : Measures → List GrowOptions → List Row → Result (Unit {0}) SweepFault → Type 0
EndsWith m runs rows (Ok done) = AreRowsOf m runs rows None
EndsWith m runs rows (Err (Run refused)) = AreRowsOf m runs rows (Some refused)
EndsWith m runs rows (Err other) = AreFirstRowsOf m runs rows

-- these runs were swept: the sweep ended so, and its rows were taken in the order of the runs
abbrev pub AreSwept : Measures → List GrowOptions → Option (List Row) → Option (List Row)
    → Result (Unit {0}) SweepFault → Type 0
AreSwept m runs old new result = (rows : List Row) × EndsWith m runs rows result × WereTaken rows old new

-- an iterator gave these runs: all that it has, or the first ones if the sweep ended before its end
abbrev pub GaveRuns : {I : Type 0} → (I → Option GrowOptions → I → Type 0) → I → List GrowOptions
    → Result (Unit {0}) SweepFault → Type 0
GaveRuns {I} gives it runs result =
    MatchResult result (λ done. Drains gives it runs) (λ fault. (left : I) × Yields gives it runs left)

-- a sweep of the runs of an iterator ended so
abbrev pub IsSweepOf : {I : Type 0} → Measures → (I → Option GrowOptions → I → Type 0) → I → Option (List Row)
    → Option (List Row) → Result (Unit {0}) SweepFault → Type 0
IsSweepOf m gives it old new result =
    (runs : List GrowOptions) × GaveRuns gives it runs result × AreSwept m runs old new result
