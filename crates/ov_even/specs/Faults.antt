-- Why an analysis is refused.
use Rattle.std.specs.Prelude.{ℕ, List, Option}
use Rattle.ov_ids.specs.FaultOrder.{HoldsThen, Passed}
use Rattle.ov_graph.specs.Links.{LinkGraph, HasNode, IsGroup}
use Rattle.ov_even.specs.declared.fault.AnalyseFault.{AnalyseFault}
use Rattle.ov_even.specs.declared.fault.AnalyseFault.TheVariants.{NoNodes, BadGroup, OutOfMemory}

-- the number of each fault
abbrev pub number_of : AnalyseFault → ℕ
number_of NoNodes = 30
number_of BadGroup = 34
number_of OutOfMemory = 99

-- the first refusal of an analysis that applies: no node, then no group; None if no refusal applies
abbrev pub GroupJudged : LinkGraph → List ℕ → Option AnalyseFault → Type 0
GroupJudged g q answer = HoldsThen (HasNode g) NoNodes (HoldsThen (IsGroup g q) BadGroup Passed) answer
