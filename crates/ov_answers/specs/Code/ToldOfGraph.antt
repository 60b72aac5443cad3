-- What is told of a graph and a group, and written.
use Rattle.std.specs.Prelude.{◌≡◌, ◌⊎◌, ℕ, ◌+◌, Bool, List, Option, Result, IfOk, IfErr}
use Rattle.std.specs.Io.KnownBytes.{Appends}
use Rattle.ov_graph.specs.Links.{LinkGraph}
use Rattle.ov_graphfile.specs.NamesState.{NamesState}
use Rattle.ov_io.specs.Device.{AppendsPrefixOf, SinkState}
use Rattle.ov_run_meaning.specs.Faults.{write_faults}
use Rattle.ov_run_meaning.specs.declared.run_fault.RunFault.{RunFault}
use Rattle.ov_run_meaning.specs.declared.run_fault.RunFault.TheVariants.{Write}
use Rattle.ov_answers.specs.Code.Files.{IsWritingFault}
use Rattle.ov_answers.specs.Telling.{TellsAnswer}
use Rattle.ov_answers.specs.declared.report_or_refusal.ReportOrRefusal.{ReportOrRefusal}
use Rattle.ov_answers.specs.declared.request.ToldAnalysis.{ToldAnalysis}

-- An analysis of this graph and this group that tells more, from a sink before it to what it is after it: as
-- `IsToldOf`, but for the graph in place of the file that says it.
pub record IsToldOfGraph {W : Type 0} (g : LinkGraph) (q : List ℕ) (names : NamesState) (certificate named : Bool)
    (contents : W → Option (List ℕ)) (before after : SinkState W) (result : Result ToldAnalysis RunFault) : Type 0 where
  -- without fault, the writer took the text after what it held, and what was printed is returned
  pub tells : IfOk result (λ told. (text : List ℕ) × TellsAnswer g q names certificate named told.answered text
      × Appends (contents before.writer) (contents after.writer) text)
  -- however it ends, the sink is as before, or the writer took a prefix of the text
  pub begun : (after ≡ before) ⊎ ((answered : ReportOrRefusal) × (text : List ℕ)
      × TellsAnswer g q names certificate named answered text
      × AppendsPrefixOf text (contents before.writer) (contents after.writer))
  -- after Write the sink counts one more fault, otherwise the same number as before
  pub sink : after.faults ≡ before.faults + write_faults result
  -- after any fault but Write, the sink is as before
  pub unwritten : IfErr result (λ f. ¬ (f ≡ Write) → after ≡ before)
  -- the writer failed, or it is out of memory
  pub kind : IfErr result IsWritingFault
