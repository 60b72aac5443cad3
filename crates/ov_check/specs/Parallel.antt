-- What a check by many threads returns.
use Rattle.std.specs.Prelude.{ℕ, ◌<◌, List, Option, Some, None, Result, Ok, Err}
use Rattle.ov_graph.specs.Links.{LinkGraph}
use Rattle.ov_cert.specs.declared.cert.Cert.{Cert}
use Rattle.ov_cert.specs.declared.cert.Cert.TheVariants as cert
use Rattle.ov_cert.specs.declared.fault.CheckFault.{CheckFault}
use Rattle.ov_cert.specs.Number as check_fault
use Rattle.ov_cert.specs.Verdict.{PassesFrame}
use Rattle.ov_check.specs.declared.check_or_memory_fault.ParallelFault.{ParallelFault}
use Rattle.ov_check.specs.declared.check_or_memory_fault.ParallelFault.TheVariants.{Check, OutOfMemory}

-- a fault of the certificate keeps its own number
abbrev pub number_of : ParallelFault → ℕ
number_of (Check fault) = check_fault.number_of fault
number_of OutOfMemory = 99

-- the result says the verdict: no fault if it is Ok, otherwise the fault that it names; out of memory says nothing
abbrev pub SaysVerdict : (Option CheckFault → Type 0) → Result (Unit {0}) ParallelFault → Type 0
SaysVerdict IsVerdict (Ok u) = IsVerdict None
SaysVerdict IsVerdict (Err (Check fault)) = IsVerdict (Some fault)
SaysVerdict IsVerdict (Err OutOfMemory) = Unit {0}

-- there are entries to judge: the certificate says that k nodes split the group, k is not 0, and its frame has no fault
abbrev pub NeedsEntries : LinkGraph → List ℕ → Cert → Type 0
NeedsEntries g q (cert.Linked k) = ⊥
NeedsEntries g q (cert.Split c) = (0 < c.k) × PassesFrame g q (cert.Split c)
