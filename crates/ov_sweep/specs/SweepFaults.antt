-- The faults of sweeps, and their numbers.
use Rattle.std.specs.Prelude.{ℕ}
use Rattle.ov_grow.specs.Faults as growing
use Rattle.ov_sweep.specs.declared.sweep_fault.SweepFault.{SweepFault}
use Rattle.ov_sweep.specs.declared.sweep_fault.SweepFault.TheVariants.{Run, Write, OutOfMemory}

-- the number of each fault; the fault of a run keeps its own
abbrev pub number_of : SweepFault → ℕ
number_of (Run refused) = growing.number_of refused.fault
number_of Write = 72
number_of OutOfMemory = 99
