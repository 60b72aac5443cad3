use Rattle.std.proofs.Common.{◌≡◌, length, min, take}
use Rattle.ov_views.specs.ViewsState.{members}
use Rattle.ov_views.specs.Code.LeftOf.{left_of}
use Rattle.ov_views.proofs.Sampling.{Sampling}
use Rattle.ov_views.proofs.views.Views.sample.Given as goal

abbrev pub invariant-loop-i : goal.invariant-loop-i
invariant-loop-i l =
    Sampling (members l.fn.view l.fn.self) l.fn.draws l.draws l.picked
    (left_of (members l.fn.view l.fn.self) (take l.i l.taken))
    × (length l.picked ≡ l.i)
    × (l.i-end ≡ min l.fn.count (length (members l.fn.view l.fn.self)))
