-- The settled pieces suffice for a certificate.
use Rattle.std.proofs.Common.{List, sym, subst}
use Rattle.ov_even.specs.Hauls.{Suffice}
use Rattle.ov_even.specs.declared.worker_haul.Haul.{Haul}
use Rattle.ov_test_refusals.proofs.files.file_by.Goals as goal

pub place_answer-requires-clause-suffice : goal.place_answer-requires-clause-suffice
place_answer-requires-clause-suffice g c =
    subst (λ (hauls : List Haul). Suffice c.in_ok-graph.graph c.nodes-group.result.now hauls)
    (sym c.deref.ensures.value) c.in_ok-hauls.ensures.settled.enough.1
