-- The faults of `overlay grow` and `overlay sweep`.
use Rattle.std.specs.Prelude.{ℕ}
use Rattle.ov_grow.specs.Faults.{number_of}
use Rattle.ov_sweep.specs.declared.sweep_fault.SweepFault.{SweepFault}
use Rattle.ov_sweep.specs.declared.sweep_fault.SweepFault.TheVariants as sweep
use Rattle.ov_sweep_rows.specs.declared.row_fault.RowFault.{RowFault}
use Rattle.ov_sweep_rows.specs.declared.row_fault.RowFault.TheVariants as row
use Rattle.ov_grow_commands.specs.declared.grow_command_fault.GrowCommandFault.{GrowCommandFault}
use Rattle.ov_grow_commands.specs.declared.grow_command_fault.GrowCommandFault.TheVariants as growth

-- the number of a fault: that of growing, or one of those that are chosen for all programs
abbrev pub growth_number : GrowCommandFault → ℕ
growth_number growth.Arguments = 73
growth_number (growth.Growing fault) = number_of fault
growth_number growth.Row = 70
growth_number growth.Read = 71
growth_number growth.Write = 72
growth_number growth.OutOfMemory = 99

-- the fault of the command after a sweep with this fault: that of growing, if a run was refused
abbrev pub fault_of_sweep : SweepFault → GrowCommandFault
fault_of_sweep (sweep.Run refused) = growth.Growing refused.fault
fault_of_sweep sweep.Write = growth.Write
fault_of_sweep sweep.OutOfMemory = growth.OutOfMemory

-- the fault of the command for a file of rows with this fault
abbrev pub fault_of_rows : RowFault → GrowCommandFault
fault_of_rows row.OutOfMemory = growth.OutOfMemory
fault_of_rows fault = growth.Row
