-- How the making of a text fails.
use Rattle.std.specs.Prelude.{ℕ, List, Some}
use Rattle.ov_graph.specs.declared.size_limit.SizeLimit.{SizeLimit}
use Rattle.ov_run_meaning.specs.Faults.{IsAnalysisFault}
use Rattle.ov_run_meaning.specs.declared.run_fault.RunFault.{RunFault}
use Rattle.ov_run_meaning.specs.declared.run_fault.RunFault.TheVariants.{Read, Write, Refused}

-- what the making of a text of a graph file returns: the file's fault within the limit, or out of memory
abbrev pub IsTextFault : SizeLimit → List ℕ → RunFault → Type 0
IsTextFault limit bytes Read = ⊥
IsTextFault limit bytes Write = ⊥
IsTextFault limit bytes (Refused n refusal) = ⊥
IsTextFault limit bytes other = IsAnalysisFault limit (Some bytes) other
