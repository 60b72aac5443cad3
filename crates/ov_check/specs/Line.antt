-- The line that is printed of an outcome.
use Rattle.std.specs.Prelude.{ℕ, List, [], ◌++◌, codes, decimal}
use Rattle.ov_io.specs.Refusal.{refusal_text}
use Rattle.ov_cert.specs.declared.fault.CheckFault.{CheckFault}
use Rattle.ov_cert.specs.declared.fault.CheckFault.TheVariants.{Pair, Fan}
use Rattle.ov_cert.specs.Number as check_fault
use Rattle.ov_certfile.specs.CertLine.{cert_text}
use Rattle.ov_certfile.specs.Number as file_fault
use Rattle.ov_check.specs.declared.outcome_of_file_bytes.Outcome.{Outcome}
use Rattle.ov_check.specs.declared.outcome_of_file_bytes.Outcome.TheVariants.{Holds, Fails, Refused}

-- the nodes that a fault names
abbrev pub named_text : CheckFault → List ℕ
named_text (Pair i j) = codes " " ++ (decimal i ++ (codes " " ++ decimal j))
named_text (Fan j) = codes " " ++ decimal j
named_text fault = []

-- the fault's number, and then the nodes that it names
unfoldable pub check_fault_text : CheckFault → List ℕ
check_fault_text fault = decimal (check_fault.number_of fault) ++ named_text fault

-- the line, without its line feed
unfoldable pub line_of : Outcome → List ℕ
line_of (Holds f) = codes "holds " ++ (decimal f.moment ++ (codes " " ++ cert_text f.cert f.graph f.group))
line_of (Fails f fault) = codes "fails " ++ check_fault_text fault
line_of (Refused r) = refusal_text (file_fault.number_of r.fault)

-- what is written: the line, ended by a line feed
abbrev pub printed_of : Outcome → List ℕ
printed_of o = line_of o ++ codes "\n"
