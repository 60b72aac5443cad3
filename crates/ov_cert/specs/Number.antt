-- The numbers of the faults of a certificate.
use Rattle.std.specs.Prelude.{ℕ}
use Rattle.ov_cert.specs.declared.fault.CheckFault.{CheckFault}
use Rattle.ov_cert.specs.declared.fault.CheckFault.TheVariants.{Count, Cut, Side, Pair, Fan, Extra, NotLinked, NoNodes}
use Rattle.ov_cert.specs.declared.fault.CheckFault.TheVariants.{BadGroup}

-- the number of each fault
abbrev pub number_of : CheckFault → ℕ
number_of Count = 40
number_of Cut = 41
number_of Side = 42
number_of (Pair i j) = 43
number_of (Fan j) = 44
number_of Extra = 45
number_of NotLinked = 46
number_of NoNodes = 47
number_of BadGroup = 49
