-- The number of the fault by which a hall is not gathered.
use Rattle.std.specs.Prelude.{ℕ}
use Rattle.ov_hall.specs.declared.driver_pass_gathering.GatherFault.{GatherFault}
use Rattle.ov_hall.specs.declared.driver_pass_gathering.GatherFault.TheVariants.{MissingPass}

-- the number of each fault
abbrev pub number_of : GatherFault → ℕ
number_of MissingPass = 56
