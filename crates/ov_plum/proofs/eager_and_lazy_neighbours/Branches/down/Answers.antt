use Rattle.ov_plum.proofs.Branching.{down_keeps}
use Rattle.ov_plum.proofs.eager_and_lazy_neighbours.Branches.down.Goals as goal

pub invariant_of-self : goal.invariant_of-self
invariant_of-self c = rw (c.remove.ensures.value, c.remove-2.ensures.value) (down_keeps _ _ c.self.invariant)
