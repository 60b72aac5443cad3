-- What was written of the analysis of a graph file, and how one is refused.
use Rattle.std.proofs.Common.{◌≡◌, ◌⊎◌, ◌+◌, inl, inr, ℕ, Bool, List, Option, Some, Err, refl, arith}
use Rattle.ov_graph.specs.Links.{LinkGraph}
use Rattle.ov_graph.specs.declared.size_limit.SizeLimit.{SizeLimit}
use Rattle.ov_ids.specs.FaultOrder.{IsRefusedBy}
use Rattle.ov_io.specs.Device.{SinkState}
use Rattle.ov_even.specs.Faults.{GroupJudged}
use Rattle.ov_even.specs.declared.fault.AnalyseFault.{AnalyseFault}
use Rattle.ov_even.specs.declared.fault.AnalyseFault.TheVariants as analysis
use Rattle.ov_run_meaning.specs.declared.run_fault.RunFault.{RunFault}
use Rattle.ov_run_meaning.specs.declared.run_fault.RunFault.TheVariants as fault
use Rattle.ov_answers.specs.Analysing.{IsAnalysisOf}
use Rattle.ov_answers.specs.Code.TextFaults.{IsTextFault}

-- a refusal of an analysis is the first applicable one, or out of memory
pub refused_or_memory :
    (g : LinkGraph) (q : List ℕ) (f : AnalyseFault) → IsRefusedBy analysis.OutOfMemory (GroupJudged g q) f
    → GroupJudged g q (Some f) ⊎ (f ≡ analysis.OutOfMemory)
refused_or_memory g q f (inl judged) = inl judged
refused_or_memory g q f (inr memory) = inr memory.0

same : (m : ℕ) → m ≡ m + 0
same m = omega arith

-- nothing was written of a file that was refused
pub refused :
    {W : Type 0} (limit : SizeLimit) (bytes : List ℕ) (contents : W → Option (List ℕ)) (sink : SinkState W)
    (group : Option (List ℕ)) (certificate : Bool) (f : RunFault)
    → IsTextFault limit bytes f → IsAnalysisOf limit (Some bytes) contents sink group certificate sink (Err f)
refused limit bytes contents sink group certificate (fault.Line n) is = record {
  prints = tt;
  begun = inl refl;
  sink = same sink.faults;
  unwritten = λ other. refl;
  fault = is;
}
refused limit bytes contents sink group certificate (fault.Params n) is = absurd is
refused limit bytes contents sink group certificate (fault.Graph g line) is = record {
  prints = tt;
  begun = inl refl;
  sink = same sink.faults;
  unwritten = λ other. refl;
  fault = is;
}
refused limit bytes contents sink group certificate fault.Read is = absurd is
refused limit bytes contents sink group certificate fault.Write is = absurd is
refused limit bytes contents sink group certificate (fault.Refused n refusal) is = absurd is
refused limit bytes contents sink group certificate fault.OutOfMemory is = record {
  prints = tt;
  begun = inl refl;
  sink = same sink.faults;
  unwritten = λ other. refl;
  fault = tt;
}
