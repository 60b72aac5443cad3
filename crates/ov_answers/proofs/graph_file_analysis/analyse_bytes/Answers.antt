-- What is told of the graph that the file says is told of the file.
use Rattle.std.proofs.Common.{Result, Some, None, false, option_map, refl, subst}
use Rattle.ov_answers.specs.Analysing.{IsAnalysisOf}
use Rattle.ov_answers.specs.Code.GivenNames.{given_names}
use Rattle.ov_answers.specs.Telling.{answered_of}
use Rattle.ov_answers.specs.declared.request.ToldAnalysis.{ToldAnalysis}
use Rattle.ov_run_meaning.specs.declared.run_fault.RunFault.{RunFault}
use Rattle.ov_answers.proofs.OfGraph.{of_file}
use Rattle.ov_answers.proofs.graph_file_analysis.analyse_bytes.Goals as goal

pub returns-in-Ok-clause-analysis : goal.returns-in-Ok-clause-analysis
returns-in-Ok-clause-analysis g c =
    let group = option_map (λ ids. ids.now) c.args.group in
    subst (λ (r : Result ToldAnalysis RunFault). IsAnalysisOf c.args.limit (Some c.args.bytes.now)
    g.W.Write.contents c.args.sink.now group c.args.certificate c.tell_graph.new.sink (answered_of r)) c.in-Ok.is
    (of_file c.args.limit c.args.bytes.now c.in_ok-graph.graph c.members_of-members.result.now (given_names None) group
    c.args.certificate false g.W.Write.contents c.args.sink.now c.tell_graph.new.sink c.tell_graph.result refl
    c.in_ok-graph.ensures.graph c.in_ok-graph.ensures.within c.members_of-members.ensures c.tell_graph.ensures)

pub returns-clause-analysis : goal.returns-clause-analysis
returns-clause-analysis g c =
    let group = option_map (λ ids. ids.now) c.args.group in
    subst (λ (r : Result ToldAnalysis RunFault). IsAnalysisOf c.args.limit (Some c.args.bytes.now)
    g.W.Write.contents c.args.sink.now group c.args.certificate c.tell_graph.new.sink (answered_of r)) c.in-Err.is
    (of_file c.args.limit c.args.bytes.now c.in_ok-graph.graph c.members_of-members.result.now (given_names None) group
    c.args.certificate false g.W.Write.contents c.args.sink.now c.tell_graph.new.sink c.tell_graph.result refl
    c.in_ok-graph.ensures.graph c.in_ok-graph.ensures.within c.members_of-members.ensures c.tell_graph.ensures)
