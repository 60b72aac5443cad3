use Rattle.std.proofs.Common.{◌≡◌, ◌+◌, ◌≤◌, drop}
use Rattle.ov_ids.proofs.Sets.{all_below}
use Rattle.ov_ids.proofs.id_set.members_below.Given as goal

abbrev pub invariant-loop-member : goal.invariant-loop-member
invariant-loop-member l =
    (all_below l.id l.ids ≡ l.below + all_below l.id (drop l.member-index l.ids)) × (l.below ≤ l.member-index)
