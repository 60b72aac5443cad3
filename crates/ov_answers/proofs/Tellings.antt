-- What is told of an answer, and of the file that it is for.
use Rattle.std.proofs.Common.{◌≡◌, ◌∙◌, ◌⊎◌, ◌+◌, ℕ, Bool, true, false, List, [], ◌++◌, Option, Some, Result, Ok, Err}
use Rattle.std.proofs.Common.{◌≤◌, length, inl, inr, refl, sym, ap, subst, arith, append-nil, append_assoc}
use Rattle.ov_graph.specs.Links.{LinkGraph, most_of}
use Rattle.ov_graph.specs.declared.size_limit.SizeLimit.{SizeLimit}
use Rattle.ov_graphfile.specs.GraphFiles.{IsGraphFile}
use Rattle.ov_cert.specs.State.{CheckedState}
use Rattle.ov_cert.specs.Valid.{IsValidForGroup, k_of}
use Rattle.ov_cert.specs.declared.cert.Cert.{Cert}
use Rattle.ov_cert.specs.declared.cert.Cert.TheVariants as cert
use Rattle.ov_io.specs.Device.{SinkState}
use Rattle.ov_even.specs.Answer.{IsCheckedAnswer}
use Rattle.ov_even.specs.Outlines.{IsOutline}
use Rattle.ov_even.specs.Theorems.{AreAlike}
use Rattle.ov_graphfile.specs.NamesState.{NamesState}
use Rattle.ov_graphfile.specs.NameLines.{AreNamesOf}
use Rattle.ov_answers.specs.Code.Files.{with_file_of}
use Rattle.ov_answers.specs.Analysing.{answer_text, PrintsAnswer, IsAnalysis, BeginsAnalysis, IsAnalysisOf}
use Rattle.ov_run_meaning.specs.Faults.{write_faults}
use Rattle.ov_answers.specs.Code.TextFaults.{IsTextFault}
use Rattle.ov_run_meaning.specs.Printed.{report_line, file_text}
use Rattle.ov_run_meaning.specs.Subjects.{members_of}
use Rattle.ov_answers.specs.declared.report_or_refusal.ReportOrRefusal.{ReportOrRefusal}
use Rattle.ov_answers.specs.declared.report_or_refusal.ReportOrRefusal.TheVariants.{Report, NoNodes, BadGroup}
use Rattle.ov_run_meaning.specs.declared.run_fault.RunFault.{RunFault}
use Rattle.ov_run_meaning.specs.declared.run_fault.RunFault.TheVariants as fault
use Rattle.ov_answers.proofs.Fewer.{loses_none}
use Rattle.ov_answers.proofs.SameLines.{same_line}
use Rattle.ov_answers.specs.Fewer.{LosesNodes}
use Rattle.ov_answers.specs.Telling.{AreLinesBetween, TellsReport, TellsAnswer, IsTelling, IsToldOf}
use Rattle.ov_answers.specs.Telling.{answered_of}
use Rattle.ov_answers.specs.declared.request.ToldAnalysis.{ToldAnalysis}

-- certificates that agree in everything but their paths have the same lines
alike_lines : (g : LinkGraph) (c d : Cert) (names : NamesState) (named : Bool) (lines : List ℕ) → AreAlike c d
    → AreLinesBetween named g d names lines → AreLinesBetween named g c names lines
alike_lines g c d names false lines same are = are
alike_lines g (cert.Linked k) (cert.Linked l) names true lines same are = are
alike_lines g (cert.Split c) (cert.Split d) names true lines same are = rw (same.cut, same.near, same.far) are
alike_lines g (cert.Linked k) (cert.Split d) names true lines same are = absurd same
alike_lines g (cert.Split c) (cert.Linked l) names true lines same are = absurd same

-- and the same number
same_number : (c full : Cert) → AreAlike full c → k_of c ≡ k_of full
same_number (cert.Linked k) (cert.Linked l) same = sym same
same_number (cert.Split c) (cert.Split d) same = sym same.k
same_number (cert.Linked k) (cert.Split d) same = absurd same
same_number (cert.Split c) (cert.Linked l) same = absurd same

-- the line of an outline, and the lines behind it, are those of a valid answer
pub outlined : (g : LinkGraph) (q : List ℕ) (c : Cert) (names : NamesState) (named : Bool) (lines text : List ℕ)
    → IsOutline g q c → AreLinesBetween named g c names lines → text ≡ report_line 0 c g q ++ lines
    → TellsReport g q names false named (k_of c) text
outlined g q c names named lines text outline are is =
    let full = outline.full.1 in
    let line = same_line 0 g q outline.full.0 c full.alike in (
      outline.full.0,
      lines,
      full.answer,
      full.valid,
      same_number c outline.full.0 full.alike,
      alike_lines g outline.full.0 c names named lines full.alike are,
      is ∙ ap (λ (t : List ℕ). t ++ lines) (sym line)
          ∙ ap (λ (t : List ℕ). report_line 0 outline.full.0 g q ++ t) (sym (append-nil lines)),
    )

-- the lines of the outline of a valid answer, with the certificate file of the answer behind them
pub certified : (g : LinkGraph) (q : List ℕ) (c : CheckedState) (outline : Cert) (names : NamesState) (named : Bool)
    (lines text : List ℕ) → IsCheckedAnswer g q c → IsValidForGroup g q c.cert → AreAlike c.cert outline
    → AreLinesBetween named g outline names lines → text ≡ report_line 0 outline g q ++ lines
    → TellsReport g q names true named (k_of outline) (with_file_of text (Some c))
certified g q c outline names named lines text answer valid same are is =
    let line = same_line 0 g q c.cert outline same in
    let file : file_text c.cert c.graph c.members 0 ≡ file_text c.cert g q 0 =
    rw (answer.graph, answer.members) refl in (
      c.cert,
      lines,
      answer.answer,
      valid,
      same_number outline c.cert same,
      alike_lines g c.cert outline names named lines same are,
      ap (λ (t : List ℕ). text ++ t) file
          ∙ ap (λ (t : List ℕ). t ++ file_text c.cert g q 0) (is ∙ ap (λ (t : List ℕ). t ++ lines) (sym line))
          ∙ append_assoc (report_line 0 c.cert g q) lines (file_text c.cert g q 0),
    )

-- with the file that says the graph and keeps the names it is what is told of the file
pub told : (limit : SizeLimit) (bytes text gone : List ℕ) (group : Option (List ℕ)) (certificate named : Bool)
    (answered : ReportOrRefusal) (g h : LinkGraph) (q : List ℕ) (names : NamesState) → IsGraphFile bytes g
    → length g.nodes ≤ most_of limit → AreNamesOf bytes g names
    → LosesNodes g gone h → q ≡ members_of group h → TellsAnswer h q names certificate named answered text
    → IsTelling limit bytes gone group certificate named answered text
told limit bytes text gone group certificate named answered g h q names says within keeps loses members tells = record {
  graph = g;
  says = says;
  within = within;
  names = names;
  keeps = keeps;
  left = h;
  loses = loses;
  tells = subst (λ r. TellsAnswer h r names certificate named answered text) members tells;
}

same : (m : ℕ) → m ≡ m + 0
same m = omega arith

-- nothing was written of a file that was refused
pub refused : {W : Type 0} (limit : SizeLimit) (bytes : List ℕ) (contents : W → Option (List ℕ)) (sink : SinkState W)
    (gone : List ℕ) (group : Option (List ℕ)) (certificate named : Bool) (f : RunFault) → IsTextFault limit bytes f
    → IsToldOf limit bytes contents sink gone group certificate named sink (Err f)
refused limit bytes contents sink gone group certificate named (fault.Line n) is = record {
  tells = tt;
  begun = inl refl;
  sink = same sink.faults;
  unwritten = λ other. refl;
  fault = is;
}
refused limit bytes contents sink gone group certificate named (fault.Params n) is = absurd is
refused limit bytes contents sink gone group certificate named (fault.Graph g line) is = record {
  tells = tt;
  begun = inl refl;
  sink = same sink.faults;
  unwritten = λ other. refl;
  fault = is;
}
refused limit bytes contents sink gone group certificate named fault.Read is = absurd is
refused limit bytes contents sink gone group certificate named fault.Write is = absurd is
refused limit bytes contents sink gone group certificate named (fault.Refused n refusal) is = absurd is
refused limit bytes contents sink gone group certificate named fault.OutOfMemory is = record {
  tells = tt;
  begun = inl refl;
  sink = same sink.faults;
  unwritten = λ other. refl;
  fault = tt;
}

-- ---- without names it is the analysis

plain_text : (line file lines : List ℕ) → lines ≡ [] → line ++ (lines ++ file) ≡ line ++ file
plain_text line file lines none = ap (λ (t : List ℕ). line ++ (t ++ file)) none

plain_answer : (g : LinkGraph) (q : List ℕ) (names : NamesState) (certificate : Bool) (answered : ReportOrRefusal)
    (text : List ℕ) → TellsAnswer g q names certificate false answered text
    → PrintsAnswer g q certificate answered text
unfolding answer_text
plain_answer g q names true (Report k) text t =
    (t.0, t.2, t.3, t.4, t.6 ∙ plain_text (report_line 0 t.0 g q) (file_text t.0 g q 0) t.1 t.5)
plain_answer g q names false (Report k) text t =
    (t.0, t.2, t.3, t.4, t.6 ∙ plain_text (report_line 0 t.0 g q) [] t.1 t.5 ∙ append-nil (report_line 0 t.0 g q))
plain_answer g q names certificate NoNodes text t = t
plain_answer g q names certificate BadGroup text t = t

-- of a file whose names were not read
pub unnamed : (limit : SizeLimit) (bytes text : List ℕ) (group : Option (List ℕ)) (certificate named : Bool)
    (answered : ReportOrRefusal) (g : LinkGraph) (q : List ℕ) (names : NamesState) → named ≡ false
    → IsGraphFile bytes g → length g.nodes ≤ most_of limit → q ≡ members_of group g
    → TellsAnswer g q names certificate named answered text → IsAnalysis limit bytes group certificate answered text
unnamed limit bytes text group certificate named answered g q names plain says within members tells = record {
  graph = g;
  says = says;
  within = within;
  prints = subst (λ r. PrintsAnswer g r certificate answered text) members
      (plain_answer g q names certificate answered text
      (subst (λ (b : Bool). TellsAnswer g q names certificate b answered text) plain tells));
}

-- of a graph of which no node is gone
plain_file : (limit : SizeLimit) (bytes : List ℕ) (group : Option (List ℕ)) (certificate : Bool)
    (answered : ReportOrRefusal) (text : List ℕ)
    → IsTelling limit bytes [] group certificate false answered text
    → IsAnalysis limit bytes group certificate answered text
plain_file limit bytes group certificate answered text t = record {
  graph = t.left;
  says = subst (IsGraphFile bytes) (sym (loses_none t.graph t.left t.says.graph t.loses)) t.says;
  within = subst (λ (g : LinkGraph). length g.nodes ≤ most_of limit)
      (sym (loses_none t.graph t.left t.says.graph t.loses)) t.within;
  prints = plain_answer t.left (members_of group t.left) t.names certificate answered text t.tells;
}

-- what a fault adds to those of the writer, whatever is returned without a fault
pub same_faults : (A B : Type 0) (f : RunFault) → write_faults {A = A} (Err f) ≡ write_faults {A = B} (Err f)
same_faults A B (fault.Line n) = refl
same_faults A B (fault.Params n) = refl
same_faults A B (fault.Graph g line) = refl
same_faults A B fault.Read = refl
same_faults A B fault.Write = refl
same_faults A B (fault.Refused n refusal) = refl
same_faults A B fault.OutOfMemory = refl

plain_begun : {W : Type 0} (limit : SizeLimit) (bytes : List ℕ) (contents : W → Option (List ℕ))
    (before after : SinkState W) (group : Option (List ℕ)) (certificate : Bool) (result : Result ToldAnalysis RunFault)
    → IsToldOf limit bytes contents before [] group certificate false after result
    → (after ≡ before)
    ⊎ BeginsAnalysis limit (Some bytes) group certificate (contents before.writer) (contents after.writer)
plain_begun limit bytes contents before after group certificate result t = elim t.begun [
  | inl e ↦ inl e
  | inr b ↦ inr (bytes, b.0, b.1, refl, plain_file limit bytes group certificate b.0 b.1 b.2, b.3)
]

pub plain : {W : Type 0} (limit : SizeLimit) (bytes : List ℕ) (contents : W → Option (List ℕ))
    (before after : SinkState W) (group : Option (List ℕ)) (certificate : Bool) (result : Result ToldAnalysis RunFault)
    → IsToldOf limit bytes contents before [] group certificate false after result
    → IsAnalysisOf limit (Some bytes) contents before group certificate after (answered_of result)
plain limit bytes contents before after group certificate (Ok told) t = record {
  prints = let p = t.tells in
      (bytes, p.0, refl, plain_file limit bytes group certificate told.answered p.0 p.1, p.2);
  begun = plain_begun limit bytes contents before after group certificate (Ok told) t;
  sink = t.sink;
  unwritten = tt;
  fault = tt;
}
plain limit bytes contents before after group certificate (Err f) t = record {
  prints = tt;
  begun = plain_begun limit bytes contents before after group certificate (Err f) t;
  sink = t.sink ∙ ap (λ n. before.faults + n) (same_faults ToldAnalysis ReportOrRefusal f);
  unwritten = t.unwritten;
  fault = t.fault;
}
