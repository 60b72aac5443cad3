use Rattle.std.proofs.Common.{ap, sym, ◌∙◌}
use Rattle.std.specs.FinMap as map
use Rattle.ov_plum.proofs.Maps.{found}
use Rattle.ov_plum.proofs.map_by_id.ById.get.Goals as goal

pub returns : goal.returns
returns g c = c.get.ensures.value ∙ sym (found _ c.args.id.now) ∙ ap (λ m. map.get m c.args.id.now) c.self.view_is
