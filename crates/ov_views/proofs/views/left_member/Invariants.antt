use Rattle.std.proofs.Common.{◌≡◌, ◌≤◌, ◌+◌, length}
use Rattle.std.specs.Prelude.{slice_get}
use Rattle.ov_views.specs.Code.LeftOf.{left_of}
use Rattle.ov_views.proofs.views.left_member.Given as goal

abbrev pub invariant-loop-last : goal.invariant-loop-last
invariant-loop-last l =
    (slice_get (left_of l.set l.others) l.before ≡ slice_get (left_of l.set l.taken) l.place)
    × (l.before + length l.others ≤ l.place + length l.taken)

abbrev pub decreases-loop-last : goal.decreases-loop-last
decreases-loop-last l = length l.others
