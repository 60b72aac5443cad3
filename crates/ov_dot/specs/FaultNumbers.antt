-- The numbers of the faults of reading a DOT text. They are chosen in the table of faults.
use Rattle.std.specs.Prelude.{ℕ}
use Rattle.ov_dot.specs.declared.fault.DotFault.{DotFault}
use Rattle.ov_dot.specs.declared.fault.DotFault.TheVariants.{UnreadLine, OutOfMemory}

-- a fault's number
abbrev pub number_of : DotFault → ℕ
number_of (UnreadLine line why) = 70
number_of OutOfMemory = 99
