-- The faults of a judge.
use Rattle.std.specs.Prelude.{ℕ}
use Rattle.ov_io.specs.Device.{read_failed, write_failed}
use Rattle.ov_io.specs.declared.fault.ReadFault.{ReadFault}
use Rattle.ov_io.specs.declared.fault.ReadFault.TheVariants as read
use Rattle.ov_check.specs.declared.read_or_write_fault.JudgeFault.{JudgeFault}
use Rattle.ov_check.specs.declared.read_or_write_fault.JudgeFault.TheVariants.{Read, Write, OutOfMemory}

-- the number of each fault of a judge
abbrev pub number_of : JudgeFault → ℕ
number_of Read = read_failed
number_of Write = write_failed
number_of OutOfMemory = 99

-- the fault of a judge whose source has this fault
abbrev pub fault_of_read : ReadFault → JudgeFault
fault_of_read read.Read = Read
fault_of_read read.OutOfMemory = OutOfMemory
