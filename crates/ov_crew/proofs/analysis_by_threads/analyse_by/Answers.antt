-- The settled pieces suffice for a certificate.
use Rattle.std.proofs.Common.{List, sym, subst}
use Rattle.ov_even.specs.Hauls.{Suffice}
use Rattle.ov_even.specs.declared.worker_haul.Haul.{Haul}
use Rattle.ov_even.proofs.AnalysisSteps.Assembling.{refused_by_memory}
use Rattle.ov_crew.proofs.analysis_by_threads.analyse_by.Goals as goal

pub assembled-answer-requires-clause-suffice : goal.assembled-answer-requires-clause-suffice
assembled-answer-requires-clause-suffice g c κs within =
    subst (λ (hauls : List Haul). Suffice c.args.graph.now c.args.group.now hauls) (sym c.deref.ensures.value)
    c.in_ok-hauls.ensures.settled.enough.1

pub returns : goal.returns
returns g c = record {
  analysed = record {
    answer = c.assembled-answer.ensures.answer;
    refused = refused_by_memory c.args.graph.now c.args.group.now c.assembled-answer.result
        c.in_ok-hauls.ensures.settled.enough.0 c.assembled-answer.ensures.refused;
  };
}
