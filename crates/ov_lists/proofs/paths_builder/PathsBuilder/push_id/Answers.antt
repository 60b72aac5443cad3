-- The paths stay, and the path that is begun has one more id.
use Rattle.std.proofs.Common.{◌≡◌, [], ◌∷◌, ◌++◌, drop, subst}
use Rattle.ov_lists.specs.Building.{Building}
use Rattle.ov_lists.specs.Code.Cut.{paths_from}
use Rattle.ov_lists.proofs.Cutting.{id_pushed, built}
use Rattle.ov_lists.proofs.paths_builder.PathsBuilder.push_id.Goals as goal

pub returns-clause-pushed : goal.returns-clause-pushed
returns-clause-pushed c =
    let b = c.self.inside in
    let a = c.self.invariant in
    subst (λ (v : Building). built (paths_from 0 b.ends c.push.new.self.items)
    (drop b.last_end c.push.new.self.items) ≡ built v.paths (v.begun ++ c.args.id ∷ [])) c.self.view_is
    (id_pushed b.ends b.last_end b.ids.items c.push.new.self.items c.args.id a.0 a.1 c.in_ok-push.ensures.items)
