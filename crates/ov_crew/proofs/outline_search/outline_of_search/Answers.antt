-- The hauls suffice for an outline, whatever they keep.
use Rattle.std.proofs.Common.{List, sym, subst}
use Rattle.ov_even.specs.Hauls.{SufficeForOutline}
use Rattle.ov_even.specs.declared.worker_haul.Haul.{Haul}
use Rattle.ov_crew.proofs.outline_search.outline_of_search.Goals as goal

pub outline_of_hauls-requires-clause-suffice : goal.outline_of_hauls-requires-clause-suffice
outline_of_hauls-requires-clause-suffice g c =
    subst (λ (hauls : List Haul). SufficeForOutline c.args.graph.now c.args.group.now hauls) (sym c.deref.ensures.value)
    (c.args.begun.keeping, c.in_ok-hauls.ensures)
