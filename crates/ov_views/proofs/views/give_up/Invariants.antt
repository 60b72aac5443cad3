use Rattle.std.proofs.Common.{◌≡◌, List, ℕ, ◌++◌, length}
use Rattle.ov_ids.specs.Members.{IsApart}
use Rattle.ov_views.proofs.views.give_up.Given as goal

abbrev pub invariant-loop-next : goal.invariant-loop-next
invariant-loop-next l = (passed : List ℕ) × IsApart l.passive passed × (l.fn.sent ≡ passed ++ l.left)

abbrev pub decreases-loop-next : goal.decreases-loop-next
decreases-loop-next l = length l.left
