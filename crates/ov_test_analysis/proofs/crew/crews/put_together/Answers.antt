-- The settled pieces suffice for a certificate.
use Rattle.std.proofs.Common.{List, ℕ, sym, subst}
use Rattle.ov_even.specs.Hauls.{Suffice}
use Rattle.ov_even.specs.declared.worker_haul.Haul.{Haul}
use Rattle.ov_test_analysis.proofs.crew.crews.put_together.Goals as goal

pub assemble-requires : goal.assemble-requires
assemble-requires c some =
    let g = c.args.graph.now in
    subst (λ (hauls : List Haul). Suffice g g.nodes hauls) (sym c.deref.ensures.value)
    (subst (λ (q : List ℕ). Suffice g q c.in_ok-hauls.hauls.items) c.nodes.ensures.nodes
    c.in_ok-hauls.ensures.settled.enough.1)
