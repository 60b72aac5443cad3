use Rattle.std.proofs.Common.{sym, ◌∙◌}
use Rattle.ov_plum.proofs.Branching.{turns_lazy}
use Rattle.ov_plum.proofs.eager_and_lazy_neighbours.Branches.make_lazy.Goals as goal

pub invariant_of-self : goal.invariant_of-self
invariant_of-self c = rw (c.insert.ensures.value, c.remove.ensures.value)
    (turns_lazy _ _ c.self.invariant (sym c.contains.ensures.value ∙ c.if-contains.true))
