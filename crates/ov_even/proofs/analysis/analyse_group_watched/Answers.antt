-- The settled pieces suffice for a certificate.
use Rattle.std.proofs.Common.{List, sym, subst}
use Rattle.ov_even.specs.Hauls.{Suffice}
use Rattle.ov_even.specs.declared.worker_haul.Haul.{Haul}
use Rattle.ov_even.proofs.AnalysisSteps.Assembling.{refused_by_memory}
use Rattle.ov_even.proofs.analysis.analyse_group_watched.Goals as goal

pub assemble_group-requires-clause-suffice : goal.assemble_group-requires-clause-suffice
assemble_group-requires-clause-suffice g c =
    subst (λ (hauls : List Haul). Suffice c.args.graph.now c.args.group.now hauls) (sym c.deref.ensures.value)
    c.in_ok-hauls.ensures.settled.enough.1

pub returns : goal.returns
returns g c = record {
  analysed = record {
    answer = c.assemble_group.ensures.answer;
    refused = refused_by_memory c.args.graph.now c.args.group.now c.assemble_group.result
        c.in_ok-hauls.ensures.settled.enough.0 c.assemble_group.ensures.refused;
  };
}
