-- The faults of a timer.
use Rattle.std.specs.Prelude.{ℕ}
use Rattle.ov_plum.specs.declared.timer_fault.TimerFault.{TimerFault}
use Rattle.ov_plum.specs.declared.timer_fault.TimerFault.TheVariants.{NoTimer, OutOfMemory}

-- the number of each fault
abbrev pub number_of : TimerFault → ℕ
number_of NoTimer = 18
number_of OutOfMemory = 99
