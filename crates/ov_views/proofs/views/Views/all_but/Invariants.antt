use Rattle.std.proofs.Common.{◌≡◌, ◌≤◌, length, drop}
use Rattle.ov_ids.specs.Sets.{IsSet, without_all}
use Rattle.ov_views.specs.ViewsState.{members}
use Rattle.ov_views.proofs.views.Views.all_but.Given as goal

abbrev pub invariant-loop-id : goal.invariant-loop-id
invariant-loop-id l =
    IsSet l.rest × (without_all (drop l.id-index l.ids) l.rest ≡ without_all l.fn.ids (members l.fn.view l.fn.self))
    × (length l.rest ≤ length (members l.fn.view l.fn.self))
