-- What is said of an analysis of the bytes that were read is said of one of the reader that had them. `read` are these
-- bytes as they were lent.
use Rattle.std.proofs.Common.{◌≡◌, ◌⊎◌, inl, inr, ◌∙◌, ℕ, Bool, List, Option, Some, IfSome, Result, Ok, Err, subst}
use Rattle.ov_graph.specs.declared.size_limit.SizeLimit.{SizeLimit}
use Rattle.ov_io.specs.Device.{SinkState}
use Rattle.ov_answers.specs.Analysing.{IsAnalysis, PrintsAnalysis, BeginsAnalysis, IsAnalysisOf}
use Rattle.ov_answers.specs.declared.report_or_refusal.ReportOrRefusal.{ReportOrRefusal}
use Rattle.ov_run_meaning.specs.Faults.{IsAnalysisFileFault, IsAnalysisFault}
use Rattle.ov_run_meaning.specs.declared.run_fault.RunFault.{RunFault}
use Rattle.ov_run_meaning.specs.declared.run_fault.RunFault.TheVariants as fault
use Rattle.ov_run_meaning.proofs.OfReader.{told}

-- what is printed of its analysis
pub analysis_prints :
    (limit : SizeLimit) (reader before after : Option (List ℕ)) (group : Option (List ℕ)) (certificate : Bool)
    (answered : ReportOrRefusal) (bytes read : List ℕ)
    → IfSome reader (λ xs. bytes ≡ xs) → read ≡ bytes
    → PrintsAnalysis limit (Some read) group certificate answered before after
    → PrintsAnalysis limit reader group certificate answered before after
analysis_prints limit reader before after group certificate answered bytes read had same
    (own, text, is, analysis, went) =
    (bytes, text, had, subst (λ bs. IsAnalysis limit bs group certificate answered text) (is ∙ same) analysis, went)

-- what its analysis begins to print, if anything
pub analysis_begins :
    {W : Type 0} (limit : SizeLimit) (sink sink_after : SinkState W) (reader before after : Option (List ℕ))
    (group : Option (List ℕ)) (certificate : Bool) (bytes read : List ℕ)
    → IfSome reader (λ xs. bytes ≡ xs) → read ≡ bytes
    → (sink_after ≡ sink) ⊎ BeginsAnalysis limit (Some read) group certificate before after
    → (sink_after ≡ sink) ⊎ BeginsAnalysis limit reader group certificate before after
analysis_begins limit sink sink_after reader before after group certificate bytes read had same (inl unchanged) =
    inl unchanged
analysis_begins limit sink sink_after reader before after group certificate bytes read had same
    (inr (own, answered, text, is, analysis, went)) =
    let here = subst (λ bs. IsAnalysis limit bs group certificate answered text) (is ∙ same) analysis in
    inr (bytes, answered, text, had, here, went)

-- the fault of its analysis
pub analysis_fault :
    (limit : SizeLimit) (reader : Option (List ℕ)) (bytes read : List ℕ) (f : RunFault)
    → IfSome reader (λ xs. bytes ≡ xs) → read ≡ bytes
    → IsAnalysisFault limit (Some read) f → IsAnalysisFault limit reader f
analysis_fault limit reader bytes read (fault.Line n) had same is =
    told (λ bs. IsAnalysisFileFault limit bs (fault.Line n)) reader bytes read had same is
analysis_fault limit reader bytes read (fault.Params n) had same is = is
analysis_fault limit reader bytes read (fault.Graph f line) had same is =
    told (λ bs. IsAnalysisFileFault limit bs (fault.Graph f line)) reader bytes read had same is
analysis_fault limit reader bytes read fault.Read had same is = tt
analysis_fault limit reader bytes read fault.Write had same is = tt
analysis_fault limit reader bytes read (fault.Refused n refusal) had same is = is
analysis_fault limit reader bytes read fault.OutOfMemory had same is = tt

-- its analysis
pub analysis_of_reader :
    {W : Type 0} (limit : SizeLimit) (contents : W → Option (List ℕ)) (sink sink' : SinkState W)
    (group : Option (List ℕ)) (certificate : Bool) (reader : Option (List ℕ)) (bytes read : List ℕ)
    (result : Result ReportOrRefusal RunFault)
    → IfSome reader (λ xs. bytes ≡ xs) → read ≡ bytes
    → IsAnalysisOf limit (Some read) contents sink group certificate sink' result
    → IsAnalysisOf limit reader contents sink group certificate sink' result
analysis_of_reader limit contents sink sink' group certificate reader bytes read (Ok answered) had same ran = record {
  prints = analysis_prints limit _ _ _ group certificate answered bytes read had same ran.prints;
  begun = analysis_begins limit sink sink' _ _ _ group certificate bytes read had same ran.begun;
  sink = ran.sink;
  unwritten = tt;
  fault = tt;
}
analysis_of_reader limit contents sink sink' group certificate reader bytes read (Err f) had same ran = record {
  prints = tt;
  begun = analysis_begins limit sink sink' _ _ _ group certificate bytes read had same ran.begun;
  sink = ran.sink;
  unwritten = ran.unwritten;
  fault = analysis_fault limit _ bytes read f had same ran.fault;
}
