use Rattle.std.proofs.Common.{◌≡◌, ◌+◌, ◌-◌, length, drop}
use Rattle.ov_ids.specs.Sets.{count_below}
use Rattle.ov_ids.proofs.id_set.place_for.Given as goal

abbrev pub invariant-loop-i : goal.invariant-loop-i
invariant-loop-i l = count_below l.id l.ids ≡ l.i + count_below l.id (drop l.i l.ids)

abbrev pub decreases-loop-i : goal.decreases-loop-i
decreases-loop-i l = length l.ids - l.i
