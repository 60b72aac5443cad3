-- What an analysis of a graph file tells: the line of its answer, the lines that name its nodes, and the certificate
-- file. The lines of the answer and the file are those of an analysis without names.
use Rattle.std.specs.Prelude.{◌≡◌, ◌⊎◌, ℕ, ◌+◌, ◌≤◌, Bool, true, false, List, [], ◌++◌, length, Option, Some, Result}
use Rattle.std.specs.Prelude.{Ok, Err, IfOk, IfErr}
use Rattle.std.specs.Io.KnownBytes.{Appends}
use Rattle.ov_graph.specs.Links.{LinkGraph, HasNode, IsGroup, most_of}
use Rattle.ov_graph.specs.declared.size_limit.SizeLimit.{SizeLimit}
use Rattle.ov_graphfile.specs.GraphFiles.{IsGraphFile}
use Rattle.ov_cert.specs.Valid.{IsValidForGroup, k_of}
use Rattle.ov_cert.specs.declared.cert.Cert.{Cert}
use Rattle.ov_io.specs.Device.{AppendsPrefixOf, SinkState}
use Rattle.ov_even.specs.Answer.{IsAnswer}
use Rattle.ov_even.specs.Faults as even
use Rattle.ov_even.specs.declared.fault.AnalyseFault.TheVariants as analysis
use Rattle.ov_graphfile.specs.NamesState.{NamesState}
use Rattle.ov_graphfile.specs.NameLines.{AreNamesOf}
use Rattle.ov_run_meaning.specs.Faults.{write_faults, IsAnalysisFault}
use Rattle.ov_run_meaning.specs.Printed.{report_line, file_text, refused_line}
use Rattle.ov_run_meaning.specs.Subjects.{members_of}
use Rattle.ov_answers.specs.declared.report_or_refusal.ReportOrRefusal.{ReportOrRefusal}
use Rattle.ov_answers.specs.declared.report_or_refusal.ReportOrRefusal.TheVariants.{Report, NoNodes, BadGroup}
use Rattle.ov_run_meaning.specs.declared.run_fault.RunFault.{RunFault}
use Rattle.ov_run_meaning.specs.declared.run_fault.RunFault.TheVariants.{Write}
use Rattle.ov_answers.specs.Fewer.{LosesNodes}
use Rattle.ov_answers.specs.Lines.{AreNameLines}
use Rattle.ov_answers.specs.declared.request.ToldAnalysis.{ToldAnalysis}

-- the lines between the line of an answer and its certificate file: those that name its nodes if names are asked for,
-- and otherwise none
abbrev pub AreLinesBetween : Bool → LinkGraph → Cert → NamesState → List ℕ → Type 0
AreLinesBetween true g c names lines = AreNameLines g c names lines
AreLinesBetween false g c names lines = lines ≡ []

-- the certificate file if it is asked for, and otherwise nothing
abbrev pub file_asked : Bool → Cert → LinkGraph → List ℕ → List ℕ
file_asked true c g q = file_text c g q 0
file_asked false c g q = []

-- the number k of an answer, a certificate that is valid for the group, and its text: its line, the lines between, and
-- its file
abbrev pub TellsReport : LinkGraph → List ℕ → NamesState → Bool → Bool → ℕ → List ℕ → Type 0
TellsReport g q names certificate named k text =
    (c : Cert) × (lines : List ℕ) × IsAnswer g q c × IsValidForGroup g q c × (k ≡ k_of c)
    × AreLinesBetween named g c names lines
    × (text ≡ report_line 0 c g q ++ (lines ++ file_asked certificate c g q))

-- what is told of an analysis, and its text. A graph without nodes is refused with 30, and ids that are no group of the
-- nodes with 34
abbrev pub TellsAnswer : LinkGraph → List ℕ → NamesState → Bool → Bool → ReportOrRefusal → List ℕ → Type 0
TellsAnswer g q names certificate named (Report k) text = TellsReport g q names certificate named k text
TellsAnswer g q names certificate named NoNodes text =
    (¬ HasNode g) × (text ≡ refused_line (even.number_of analysis.NoNodes))
TellsAnswer g q names certificate named BadGroup text =
    HasNode g × (¬ IsGroup g q) × (text ≡ refused_line (even.number_of analysis.BadGroup))

-- the bytes of a file say a graph of no more nodes than the limit says, and keep names of its nodes, and this is told
-- of the analysis of what is left of it without the nodes that are gone, with this text
pub record IsTelling (limit : SizeLimit) (bytes gone : List ℕ) (group : Option (List ℕ)) (certificate named : Bool)
    (answered : ReportOrRefusal) (text : List ℕ) : Type 0 where
  pub graph : LinkGraph
  pub says : IsGraphFile bytes graph
  pub within : length graph.nodes ≤ most_of limit
  pub names : NamesState
  pub keeps : AreNamesOf bytes graph names
  pub left : LinkGraph
  pub loses : LosesNodes graph gone left
  pub tells : TellsAnswer left (members_of group left) names certificate named answered text

-- An analysis of the graph file of these bytes that tells more, from a sink before it to what it is after it.
-- `contents` are the bytes that a writer holds, if they are known. The analysis is of the graph without the nodes that
-- are gone, for this group, or for all nodes that are left, `certificate` asks for the certificate file too, and
-- `named` for the lines with names. The graph of the file may have as many nodes as the limit says.
pub record IsToldOf {W : Type 0} (limit : SizeLimit) (bytes : List ℕ) (contents : W → Option (List ℕ))
    (sink_before : SinkState W) (gone : List ℕ) (group : Option (List ℕ)) (certificate named : Bool)
    (sink_after : SinkState W) (result : Result ToldAnalysis RunFault) : Type 0 where
  -- without fault, the writer took the text of the analysis after what it held, and nothing else, and what was printed
  -- is returned
  pub tells : IfOk result (λ told. (text : List ℕ)
      × IsTelling limit bytes gone group certificate named told.answered text
      × Appends (contents sink_before.writer) (contents sink_after.writer) text)
  -- however it ends, the sink is as before, or the writer took a prefix of the text of the analysis
  pub begun : (sink_after ≡ sink_before) ⊎ ((answered : ReportOrRefusal) × (text : List ℕ)
      × IsTelling limit bytes gone group certificate named answered text
      × AppendsPrefixOf text (contents sink_before.writer) (contents sink_after.writer))
  -- after Write the sink counts one more fault, otherwise the same number as before
  pub sink : sink_after.faults ≡ sink_before.faults + write_faults result
  -- after any fault but Write, the sink is as before
  pub unwritten : IfErr result (λ f. ¬ (f ≡ Write) → sink_after ≡ sink_before)
  -- a fault of a line or of the graph is that of the file, and no fault is one of parameters
  pub fault : IfErr result (IsAnalysisFault limit (Some bytes))

-- what was printed, or the fault
abbrev pub answered_of : Result ToldAnalysis RunFault → Result ReportOrRefusal RunFault
answered_of (Ok told) = Ok told.answered
answered_of (Err fault) = Err fault
