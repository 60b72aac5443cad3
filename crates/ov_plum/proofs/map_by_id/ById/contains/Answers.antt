use Rattle.std.proofs.Common.{ap, sym, ◌∙◌, is_some}
use Rattle.std.specs.FinMap.{get}
use Rattle.ov_plum.proofs.Maps.{found}
use Rattle.ov_plum.proofs.map_by_id.ById.contains.Goals as goal

pub returns : goal.returns
returns g c = c.contains_key.ensures ∙ ap is_some (sym (found _ c.args.id.now))
    ∙ ap (λ m. is_some (get m c.args.id.now)) c.self.view_is
