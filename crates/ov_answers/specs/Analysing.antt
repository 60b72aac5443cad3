-- What an analysis of a graph file prints.
use Rattle.std.specs.Prelude.{◌≡◌, ◌≢◌, ◌⊎◌, ℕ, ◌+◌, ◌≤◌, Bool, true, false, List, ◌++◌, length, Option, Result, Err}
use Rattle.std.specs.Prelude.{IfSome, IfOk, IfErr, IsErrOf}
use Rattle.std.specs.Io.KnownBytes.{Appends}
use Rattle.ov_graph.specs.Links.{LinkGraph, HasNode, IsGroup, most_of}
use Rattle.ov_graph.specs.declared.size_limit.SizeLimit.{SizeLimit}
use Rattle.ov_cert.specs.Valid.{IsValidForGroup, k_of}
use Rattle.ov_cert.specs.declared.cert.Cert.{Cert}
use Rattle.ov_io.specs.Device.{AppendsPrefixOf, SourceState, SinkState, ReaderFailed}
use Rattle.ov_even.specs.Answer.{IsAnswer}
use Rattle.ov_even.specs.Faults as even
use Rattle.ov_even.specs.declared.fault.AnalyseFault.TheVariants as analysis
use Rattle.ov_run_meaning.specs.Faults.{read_faults, write_faults, IsAnalysisFault}
use Rattle.ov_graphfile.specs.GraphFiles.{IsGraphFile}
use Rattle.ov_run_meaning.specs.Printed.{report_line, file_text, refused_line}
use Rattle.ov_run_meaning.specs.Subjects.{members_of}
use Rattle.ov_answers.specs.declared.report_or_refusal.ReportOrRefusal.{ReportOrRefusal}
use Rattle.ov_answers.specs.declared.report_or_refusal.ReportOrRefusal.TheVariants.{Report, NoNodes, BadGroup}
use Rattle.ov_run_meaning.specs.declared.run_fault.RunFault.{RunFault}
use Rattle.ov_run_meaning.specs.declared.run_fault.RunFault.TheVariants.{Read, Write}

-- the line of an answer, for moment 0; the certificate file follows it if that is asked for
unfoldable pub answer_text : Cert → LinkGraph → List ℕ → Bool → List ℕ
answer_text c g q false = report_line 0 c g q
answer_text c g q true = report_line 0 c g q ++ file_text c g q 0

-- what is printed of an analysis, and its text: a graph without nodes is refused with 30; ids that are no group of the
-- nodes are refused with 34; otherwise the answer is printed, a certificate that is valid for the group, with the
-- number k
abbrev pub PrintsAnswer : LinkGraph → List ℕ → Bool → ReportOrRefusal → List ℕ → Type 0
PrintsAnswer g q certificate (Report k) text =
    (c : Cert) × IsAnswer g q c × IsValidForGroup g q c × (k ≡ k_of c) × (text ≡ answer_text c g q certificate)
PrintsAnswer g q certificate NoNodes text = (¬ HasNode g) × (text ≡ refused_line (even.number_of analysis.NoNodes))
PrintsAnswer g q certificate BadGroup text =
    HasNode g × (¬ IsGroup g q) × (text ≡ refused_line (even.number_of analysis.BadGroup))

-- the bytes of a file say a graph of no more nodes than the limit says, and this is printed of its analysis, with this
-- text
pub record IsAnalysis (limit : SizeLimit) (bytes : List ℕ) (group : Option (List ℕ)) (certificate : Bool)
    (answered : ReportOrRefusal) (text : List ℕ) : Type 0 where
  pub graph : LinkGraph
  pub says : IsGraphFile bytes graph
  pub within : length graph.nodes ≤ most_of limit
  pub prints : PrintsAnswer graph (members_of group graph) certificate answered text

-- all that the reader had was read, and the writer took the text of the analysis after what it held
abbrev pub PrintsAnalysis : SizeLimit → Option (List ℕ) → Option (List ℕ) → Bool → ReportOrRefusal → Option (List ℕ)
    → Option (List ℕ) → Type 0
PrintsAnalysis limit reader group certificate answered before after =
    (bytes : List ℕ) × (text : List ℕ) × IfSome reader (λ xs. bytes ≡ xs)
    × IsAnalysis limit bytes group certificate answered text
    × Appends before after text

-- the same for a prefix of that text
abbrev pub BeginsAnalysis
    : SizeLimit → Option (List ℕ) → Option (List ℕ) → Bool → Option (List ℕ) → Option (List ℕ) → Type 0
BeginsAnalysis limit reader group certificate before after =
    (bytes : List ℕ) × (answered : ReportOrRefusal) × (text : List ℕ) × IfSome reader (λ xs. bytes ≡ xs)
    × IsAnalysis limit bytes group certificate answered text
    × AppendsPrefixOf text before after

-- An analysis of the graph file of a reader that had these bytes, if they are known, from a sink before it to what it
-- is after it. `contents` are the bytes that a writer holds, if they are known. The analysis is of this group, or of
-- all nodes without it, and `certificate` asks for the certificate file too. The graph may have as many nodes as the
-- limit says.
pub record IsAnalysisOf {W : Type 0} (limit : SizeLimit) (reader : Option (List ℕ)) (contents : W → Option (List ℕ))
    (sink_before : SinkState W) (group : Option (List ℕ)) (certificate : Bool) (sink_after : SinkState W)
    (result : Result ReportOrRefusal RunFault) : Type 0 where
  -- without fault, the writer took the text of the analysis after what it held, and nothing else, and what was printed
  -- is returned
  pub prints : IfOk result (λ answered.
      PrintsAnalysis limit reader group certificate answered (contents sink_before.writer) (contents sink_after.writer))
  -- however it ends, the sink is as before, or the writer took a prefix of the text of the analysis
  pub begun : (sink_after ≡ sink_before)
      ⊎ BeginsAnalysis limit reader group certificate (contents sink_before.writer) (contents sink_after.writer)
  -- after Write the sink counts one more fault, otherwise the same number as before
  pub sink : sink_after.faults ≡ sink_before.faults + write_faults result
  -- after any fault but Write, the sink is as before
  pub unwritten : IfErr result (λ f. ¬ (f ≡ Write) → sink_after ≡ sink_before)
  -- a fault of a line or of the graph is that of the file, and no fault is one of parameters
  pub fault : IfErr result (IsAnalysisFault limit reader)

-- An analysis of a graph file, from a source and a sink before it to what they are after it. `remaining` are the bytes
-- that a reader still has, if they are known.
pub record IsFileAnalysis {R W : Type 0} (limit : SizeLimit) (remaining : R → Option (List ℕ))
    (contents : W → Option (List ℕ)) (source_before : SourceState R) (sink_before : SinkState W)
    (group : Option (List ℕ)) (certificate : Bool)
    (source_after : SourceState R) (sink_after : SinkState W) (result : Result ReportOrRefusal RunFault) : Type 0 where
  -- it is an analysis of the graph file of the source's reader
  pub analysis : IsAnalysisOf limit (remaining source_before.reader) contents sink_before group certificate sink_after
      result
  -- after Read the source counts one more fault, otherwise the same number as before
  pub source : source_after.faults ≡ source_before.faults + read_faults result
  -- Read is returned only if the reader failed in this analysis
  pub failed : IsErrOf result Read → ReaderFailed source_before source_after
  -- after anything but Read no read of this analysis failed
  pub not_failed : result ≢ Err Read → source_after.failures ≡ source_before.failures
