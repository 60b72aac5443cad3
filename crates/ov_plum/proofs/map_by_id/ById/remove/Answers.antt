use Rattle.std.proofs.Common.{ap, ◌∙◌}
use Rattle.std.specs.FinMap as map
use Rattle.ov_plum.proofs.Maps.{removed}
use Rattle.ov_plum.proofs.map_by_id.ById.remove.Goals as goal

pub returns : goal.returns
returns g c = removed _ _ c.args.id.now c.swap_remove.ensures.updates.0
    ∙ ap (λ m. map.remove m c.args.id.now) c.self.view_is
