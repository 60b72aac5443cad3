-- What was told of a graph and written, and what follows of the file that says the graph.
use Rattle.std.proofs.Common.{◌≡◌, ◌∙◌, ◌⊎◌, ◌+◌, ℕ, Bool, true, false, List, Option, Some, Result, Ok, Err}
use Rattle.std.proofs.Common.{inl, inr, refl, sym, ap, subst, arith, ◌++◌, ◌≤◌, length}
use Rattle.std.specs.Prelude.{IfOk, IfErr, OnOk}
use Rattle.std.specs.Io.KnownBytes.{Appends}
use Rattle.ov_graph.specs.Links.{LinkGraph, most_of}
use Rattle.ov_graph.specs.declared.size_limit.SizeLimit.{SizeLimit}
use Rattle.ov_graphfile.specs.GraphFiles.{IsGraphFile}
use Rattle.ov_graphfile.specs.NamesState.{NamesState}
use Rattle.ov_graphfile.specs.NameLines.{AreNamesOf}
use Rattle.ov_io.specs.Device.{AppendsPrefixOf, SinkState}
use Rattle.ov_run_meaning.specs.Faults.{write_faults, IsAnalysisFault}
use Rattle.ov_run_meaning.specs.Subjects.{members_of}
use Rattle.ov_run_meaning.specs.declared.run_fault.RunFault.{RunFault}
use Rattle.ov_run_meaning.specs.declared.run_fault.RunFault.TheVariants as fault
use Rattle.ov_answers.specs.Analysing.{IsAnalysisOf, BeginsAnalysis}
use Rattle.ov_answers.specs.Code.Files.{IsWritingFault}
use Rattle.ov_answers.specs.Code.ToldOfGraph.{IsToldOfGraph}
use Rattle.ov_answers.specs.Fewer.{LosesNodes}
use Rattle.ov_answers.specs.Telling.{TellsAnswer, IsToldOf, IsTelling, answered_of}
use Rattle.ov_answers.specs.declared.report_or_refusal.ReportOrRefusal.{ReportOrRefusal}
use Rattle.ov_answers.specs.declared.request.ToldAnalysis.{ToldAnalysis}
use Rattle.ov_cert.specs.Valid.{k_of}
use Rattle.ov_cert.specs.declared.cert.Cert.{Cert}
use Rattle.ov_even.specs.Outlines.{IsOutline}
use Rattle.ov_ids.specs.declared.out_of_memory.OutOfMemory.{OutOfMemory}
use Rattle.ov_run_meaning.specs.Printed.{report_line}
use Rattle.ov_answers.specs.Telling.{AreLinesBetween}
use Rattle.ov_answers.specs.declared.answer_making.Answer.{Answer}
use Rattle.ov_answers.specs.declared.report_or_refusal.ReportOrRefusal.TheVariants.{Report}
use Rattle.ov_cert.specs.State.{CheckedState}
use Rattle.ov_cert.specs.Valid.{IsValidForGroup}
use Rattle.ov_even.specs.Answer.{IsCheckedAnswer}
use Rattle.ov_even.specs.Theorems.{AreAlike}
use Rattle.ov_answers.specs.Code.Files.{with_file_of}
use Rattle.ov_answers.proofs.Tellings.{unnamed, told, same_faults, outlined, certified}

same : (m : ℕ) → m ≡ m + 0
same m = omega arith

-- nothing was written, out of memory
pub unwritten : {W : Type 0} (g : LinkGraph) (q : List ℕ) (names : NamesState) (certificate named : Bool)
    (contents : W → Option (List ℕ)) (sink : SinkState W)
    → IsToldOfGraph g q names certificate named contents sink sink (Err fault.OutOfMemory)
unwritten g q names certificate named contents sink = record {
  tells = tt;
  begun = inl refl;
  sink = same sink.faults;
  unwritten = λ other. refl;
  kind = tt;
}

-- an answer that was written, or of which a prefix was
pub written : {W : Type 0} (g : LinkGraph) (q : List ℕ) (names : NamesState) (certificate named : Bool)
    (contents : W → Option (List ℕ)) (before after : SinkState W) (answer : ToldAnalysis) (text : List ℕ)
    (result : Result ToldAnalysis RunFault) → TellsAnswer g q names certificate named answer.answered text
    → IfOk result (λ t. t ≡ answer) → OnOk result (Appends (contents before.writer) (contents after.writer) text)
    → AppendsPrefixOf text (contents before.writer) (contents after.writer)
    → after.faults ≡ before.faults + write_faults result → IfErr result (λ f. ¬ (f ≡ fault.Write) → after ≡ before)
    → IfErr result IsWritingFault → IsToldOfGraph g q names certificate named contents before after result
written g q names certificate named contents before after answer text (Ok t) tells is appends prefix faults un kind =
    record {
      tells = (
        text,
        subst (λ (x : ToldAnalysis). TellsAnswer g q names certificate named x.answered text) (sym is) tells,
        appends,
      );
      begun = inr (answer.answered, text, tells, prefix);
      sink = faults;
      unwritten = tt;
      kind = tt;
    }
written g q names certificate named contents before after answer text (Err f) tells is appends prefix faults un kind =
    record {
      tells = tt;
      begun = inr (answer.answered, text, tells, prefix);
      sink = faults;
      unwritten = un;
      kind = kind;
    }

-- a fault of writing is one of an analysis
writing_fault : (limit : SizeLimit) (bytes : List ℕ) (f : RunFault) → IsWritingFault f
    → IsAnalysisFault limit (Some bytes) f
writing_fault limit bytes fault.Write is = tt
writing_fault limit bytes fault.OutOfMemory is = tt
writing_fault limit bytes (fault.Line n) is = absurd is
writing_fault limit bytes (fault.Params n) is = absurd is
writing_fault limit bytes (fault.Graph g line) is = absurd is
writing_fault limit bytes fault.Read is = absurd is
writing_fault limit bytes (fault.Refused n refusal) is = absurd is

-- ---- of a file without names

plain_begun : {W : Type 0} (limit : SizeLimit) (bytes : List ℕ) (g : LinkGraph) (q : List ℕ) (names : NamesState)
    (group : Option (List ℕ)) (certificate named : Bool) (contents : W → Option (List ℕ)) (before after : SinkState W)
    (result : Result ToldAnalysis RunFault) → named ≡ false → IsGraphFile bytes g
    → length g.nodes ≤ most_of limit → q ≡ members_of group g
    → IsToldOfGraph g q names certificate named contents before after result
    → (after ≡ before)
    ⊎ BeginsAnalysis limit (Some bytes) group certificate (contents before.writer) (contents after.writer)
plain_begun limit bytes g q names group certificate named contents before after result plain says within members t =
    elim t.begun [
      | inl e ↦ inl e
      | inr b ↦ inr (
        bytes,
        b.0,
        b.1,
        refl,
        unnamed limit bytes b.1 group certificate named b.0 g q names plain says within members b.2,
        b.3,
      )
    ]

pub of_file : {W : Type 0} (limit : SizeLimit) (bytes : List ℕ) (g : LinkGraph) (q : List ℕ) (names : NamesState)
    (group : Option (List ℕ)) (certificate named : Bool) (contents : W → Option (List ℕ)) (before after : SinkState W)
    (result : Result ToldAnalysis RunFault) → named ≡ false → IsGraphFile bytes g
    → length g.nodes ≤ most_of limit → q ≡ members_of group g
    → IsToldOfGraph g q names certificate named contents before after result
    → IsAnalysisOf limit (Some bytes) contents before group certificate after (answered_of result)
of_file limit bytes g q names group certificate named contents before after (Ok told) plain says within members t =
    record {
      prints = let p = t.tells in (
        bytes,
        p.0,
        refl,
        unnamed limit bytes p.0 group certificate named told.answered g q names plain says within members p.1,
        p.2,
      );
      begun = plain_begun limit bytes g q names group certificate named contents before after (Ok told) plain says
          within members t;
      sink = t.sink;
      unwritten = tt;
      fault = tt;
    }
of_file limit bytes g q names group certificate named contents before after (Err f) plain says within members t =
    record {
      prints = tt;
      begun = plain_begun limit bytes g q names group certificate named contents before after (Err f) plain says
          within members t;
      sink = t.sink ∙ ap (λ n. before.faults + n) (same_faults ToldAnalysis ReportOrRefusal f);
      unwritten = t.unwritten;
      fault = writing_fault limit bytes f t.kind;
    }

-- ---- of a file with names, of which nodes are gone

named_begun : {W : Type 0} (limit : SizeLimit) (bytes gone : List ℕ) (g h : LinkGraph) (q : List ℕ)
    (names : NamesState) (group : Option (List ℕ)) (certificate named : Bool) (contents : W → Option (List ℕ))
    (before after : SinkState W)
    (result : Result ToldAnalysis RunFault) → IsGraphFile bytes g → length g.nodes ≤ most_of limit
    → AreNamesOf bytes g names → LosesNodes g gone h
    → q ≡ members_of group h → IsToldOfGraph h q names certificate named contents before after result
    → (after ≡ before) ⊎ ((answered : ReportOrRefusal) × (text : List ℕ)
    × IsTelling limit bytes gone group certificate named answered text
    × AppendsPrefixOf text (contents before.writer) (contents after.writer))
named_begun limit bytes gone g h q names group certificate named contents before after result says within keeps loses
    members t =
    elim t.begun [
      | inl e ↦ inl e
      | inr b ↦ inr (
        b.0,
        b.1,
        told limit bytes b.1 gone group certificate named b.0 g h q names says within keeps loses members b.2,
        b.3,
      )
    ]

pub of_named_file : {W : Type 0} (limit : SizeLimit) (bytes gone : List ℕ) (g h : LinkGraph) (q : List ℕ)
    (names : NamesState) (group : Option (List ℕ)) (certificate named : Bool) (contents : W → Option (List ℕ))
    (before after : SinkState W)
    (result : Result ToldAnalysis RunFault) → IsGraphFile bytes g → length g.nodes ≤ most_of limit
    → AreNamesOf bytes g names → LosesNodes g gone h
    → q ≡ members_of group h → IsToldOfGraph h q names certificate named contents before after result
    → IsToldOf limit bytes contents before gone group certificate named after result
of_named_file limit bytes gone g h q names group certificate named contents before after (Ok x) says within keeps loses
    members t =
    record {
      tells = let p = t.tells in (
        p.0,
        told limit bytes p.0 gone group certificate named x.answered g h q names says within keeps loses members p.1,
        p.2,
      );
      begun = named_begun limit bytes gone g h q names group certificate named contents before after (Ok x) says within
          keeps loses members t;
      sink = t.sink;
      unwritten = tt;
      fault = tt;
    }
of_named_file limit bytes gone g h q names group certificate named contents before after (Err f) says within keeps loses
    members t =
    record {
      tells = tt;
      begun = named_begun limit bytes gone g h q names group certificate named contents before after (Err f) says within
          keeps loses members t;
      sink = t.sink;
      unwritten = t.unwritten;
      fault = writing_fault limit bytes f t.kind;
    }

-- ---- answers that begin

-- the answer of an outline
pub outline_told : (g : LinkGraph) (q : List ℕ) (outline : Cert) (names : NamesState) (named : Bool)
    (result : Result Answer OutOfMemory) → IsOutline g q outline
    → IfOk result (λ answer. answer.told.answered ≡ Report (k_of outline))
    → IfOk result (λ answer. (lines : List ℕ) × AreLinesBetween named g outline names lines
    × (answer.text.items ≡ report_line 0 outline g q ++ lines))
    → IfOk result (λ answer. TellsAnswer g q names false named answer.told.answered answer.text.items)
outline_told g q outline names named (Ok answer) is said begun =
    subst (λ (a : ReportOrRefusal). TellsAnswer g q names false named a answer.text.items) (sym said)
    (outlined g q outline names named begun.0 answer.text.items is begun.1 begun.2)
outline_told g q outline names named (Err f) is said begun = tt

-- the answer of a certificate, of which the outline was told, with its file
pub file_told : (g : LinkGraph) (q : List ℕ) (c : CheckedState) (outline : Cert) (names : NamesState) (named : Bool)
    (answer : Answer) → IsCheckedAnswer g q c → IsValidForGroup g q c.cert → AreAlike c.cert outline
    → answer.told.answered ≡ Report (k_of outline)
    → ((lines : List ℕ) × AreLinesBetween named g outline names lines
    × (answer.text.items ≡ report_line 0 outline g q ++ lines))
    → TellsAnswer g q names true named answer.told.answered (with_file_of answer.text.items (Some c))
file_told g q c outline names named answer is valid alike said begun =
    subst (λ (a : ReportOrRefusal). TellsAnswer g q names true named a (with_file_of answer.text.items (Some c)))
    (sym said)
    (certified g q c outline names named begun.0 answer.text.items is valid alike begun.1 begun.2)
