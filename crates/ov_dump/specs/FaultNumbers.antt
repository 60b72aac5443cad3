-- The numbers of the faults of a file that is no dump. 70 and 83 are chosen here.
use Rattle.std.specs.Prelude.{ℕ}
use Rattle.ov_dump.specs.declared.reading_fault.DumpReadFault.{DumpReadFault}
use Rattle.ov_dump.specs.declared.reading_fault.DumpReadFault.TheVariants.{NotJson, NotViews, NoView, UnreadLine}
use Rattle.ov_dump.specs.declared.reading_fault.DumpReadFault.TheVariants.{OutOfMemory}

-- the number of each fault
abbrev pub number_of : DumpReadFault → ℕ
number_of NotJson = 60
number_of NotViews = 83
number_of (NoView entry name) = 83
number_of (UnreadLine line why) = 70
number_of OutOfMemory = 99
