-- What the program's answer to a text means.
use Rattle.std.specs.Prelude.{◌≢◌, ℕ, List, Some, Result, Ok, Err}
use Rattle.ov_graph.specs.Joined.{FewestForGroup}
use Rattle.ov_cert.specs.Verdict.{JudgedForGroup}
use Rattle.ov_cert.specs.declared.fault.CheckFault.{CheckFault}
use Rattle.ov_certfile.specs.Says.{SaysText}
use Rattle.ov_certfile.specs.declared.reading.Filed.{Filed}
use Rattle.ov_certfile.specs.declared.version.Version.TheVariants.{Two}
use Rattle.ov_certfile.specs.declared.fault.FileFault.TheVariants.{OutOfMemory}
use Rattle.example_programs.specs.declared.judging.Judged.{Judged}
use Rattle.example_programs.specs.declared.judging.Refusal.{Refusal}
use Rattle.example_programs.specs.declared.judging.Refusal.TheVariants.{File, Certificate}

-- the text says this graph, group and certificate, and the number is the fewest nodes whose crash splits the group
pub record IsJudged (text : List ℕ) (j : Judged) : Type 0 where
  pub says : SaysText Two text (Ok j.filed)
  pub fewest : FewestForGroup j.filed.graph j.filed.group j.fewest

-- the text says a certificate file, and this is the first fault of its certificate
pub record DoesNotHold (text : List ℕ) (fault : CheckFault) : Type 0 where
  pub filed : Filed
  pub says : SaysText Two text (Ok filed)
  pub judged : JudgedForGroup filed.graph filed.group filed.cert (Some fault)

-- the text has been judged; or it is no certificate file, and this is its fault, out of memory aside; or its
-- certificate does not hold
abbrev pub IsAnswer : List ℕ → Result Judged Refusal → Type 0
IsAnswer text (Ok j) = IsJudged text j
IsAnswer text (Err (File fault)) = fault ≢ OutOfMemory → SaysText Two text (Err fault)
IsAnswer text (Err (Certificate fault)) = DoesNotHold text fault
