use Rattle.std.proofs.Common.{◌≡◌, ◌≤◌, take}
use Rattle.ov_ids.specs.Sets.{without_all}
use Rattle.ov_views.proofs.views.Views.pick_but.Given as goal

abbrev pub invariant-loop-member : goal.invariant-loop-member
invariant-loop-member l =
    (take l.count l.others ≡ without_all l.ids (take l.member-index l.members)) × (l.count ≤ l.member-index)
