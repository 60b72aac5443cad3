-- Why the words after `overlay grow` and `overlay sweep` can't be read.
use Rattle.std.specs.Prelude.{ℕ}
use Rattle.ov_arguments.specs.declared.grow_arguments_fault.GrowArgumentsFault.{GrowArgumentsFault}
use Rattle.ov_arguments.specs.declared.grow_arguments_fault.GrowArgumentsFault.TheVariants.{BadArguments, OutOfMemory}

-- the fault's number
abbrev pub number_of : GrowArgumentsFault → ℕ
number_of (BadArguments reason) = 73
number_of OutOfMemory = 99
