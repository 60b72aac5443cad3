-- The rows that a printer of rows has kept.
use Rattle.std.specs.Prelude.{◌≡◌, ◌⊎◌, List, Option, Some, None, if◌then◌else◌}
use Rattle.ov_arguments.specs.declared.sweep_request.SweepRequest.{SweepRequest}
use Rattle.ov_grow_commands.specs.KeptRows.{needs_rows}
use Rattle.ov_sweep.specs.declared.sweep_fault.SweepFault.{SweepFault}
use Rattle.ov_sweep.specs.declared.sweep_fault.SweepFault.TheVariants.{Write, OutOfMemory}
use Rattle.ov_sweep_rows.specs.declared.row.Row.{Row}

-- the rows that were given, if they are needed at the end and so were kept
abbrev pub kept_rows : SweepRequest → List Row → Option (List Row)
kept_rows request kept = if needs_rows request then Some kept else None

-- the fault is that of no run
abbrev pub IsOfNoRun : SweepFault → Type 0
IsOfNoRun fault = (fault ≡ Write) ⊎ (fault ≡ OutOfMemory)
