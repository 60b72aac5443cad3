-- The shares of workers in a batch of runs.
use Rattle.std.specs.Prelude.{◌≡◌, ℕ, List, slice_get, Some, Result, IfOk, Vec}
use Rattle.std.specs.List.{All}
use Rattle.std.specs.Global.{Global}
use Rattle.ov_ids.specs.declared.out_of_memory.OutOfMemory.{OutOfMemory}
use Rattle.ov_grow_options.specs.declared.options.GrowOptions.{GrowOptions}
use Rattle.ov_grow.specs.declared.fault.GrowFault.{GrowFault}
use Rattle.ov_sweep_rows.specs.declared.measures.Measures.{Measures}
use Rattle.ov_sweep_rows.specs.declared.row.Row.{Row}
use Rattle.ov_sweep.specs.Sweeps.{IsOutcomeAt}

-- what comes of a run
abbrev pub Outcome : Type 0
Outcome = Result Row GrowFault

-- a run that was done: its place in the batch, and what came of it
abbrev pub Done : Type 0
Done = ℕ × Outcome

-- it is what comes of the run at this place
abbrev pub IsDone : Measures → List GrowOptions → Done → Type 0
IsDone m batch run = IsOutcomeAt m batch run.0 run.1

-- each of these runs was done
abbrev pub AreDone : Measures → List GrowOptions → List Done → Type 0
AreDone m batch runs = All (IsDone m batch) runs

-- what a worker returns: the runs that it did, or out of memory
abbrev pub Share : Type 0
Share = Result (Vec Done Global) OutOfMemory

-- each of the workers returns runs that were done
abbrev pub AreShares : Measures → List GrowOptions → List Share → Type 0
AreShares m batch shares =
    (i : ℕ) (share : Share) → slice_get shares i ≡ Some share → IfOk share (λ v. AreDone m batch v.items)
