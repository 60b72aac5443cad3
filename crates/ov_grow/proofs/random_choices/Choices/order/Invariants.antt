use Rattle.std.proofs.Common.{ℕ, List, ◌++◌, length}
use Rattle.rand_pcg.specs.Lcg.{Lcg}
use Rattle.ov_grow.specs.Choices.{IsRandomOrder}
use Rattle.ov_grow.proofs.random_choices.Choices.order.Given as goal

abbrev pub invariant-loop-self : goal.invariant-loop-self
invariant-loop-self l =
    (rest : List ℕ) (after : Lcg) → IsRandomOrder l.left.items rest l.self after
    → IsRandomOrder l.ids (l.ordered.items ++ rest) l.initial.self after

abbrev pub decreases-loop-self : goal.decreases-loop-self
decreases-loop-self l = length l.left.items
