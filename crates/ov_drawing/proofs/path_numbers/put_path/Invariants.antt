-- with the steps that are left put, the map is as with all steps put
use Rattle.std.proofs.Common.{◌≡◌, ◌∷◌, ℕ, length}
use Rattle.std.specs.BTreeMap.{get}
use Rattle.ov_drawing.specs.Code.PathTests.{link_cmp, goes_along, or_at}
use Rattle.ov_drawing.proofs.path_numbers.put_path.Given as goal

abbrev pub invariant-loop-next : goal.invariant-loop-next
invariant-loop-next l = (k : ℕ × ℕ)
    → or_at (get link_cmp l.numbers k) (goes_along (l.from ∷ l.rest) k) l.at
    ≡ or_at (get link_cmp l.fn.numbers k) (goes_along l.path k) l.at

abbrev pub decreases-loop-next : goal.decreases-loop-next
decreases-loop-next l = length l.rest
