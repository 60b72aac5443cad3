-- No id is behind the last end.
use Rattle.std.proofs.Common.{◌∙◌, ap, subst}
use Rattle.ov_lists.specs.Building.{Building}
use Rattle.ov_lists.specs.Code.Cut.{AreEnds}
use Rattle.ov_lists.proofs.Cutting.{none_begun}
use Rattle.ov_lists.proofs.paths_builder.PathsBuilder.finish.Goals as goal

pub of_parts-requires : goal.of_parts-requires
of_parts-requires c =
    let b = c.self.inside in
    let a = c.self.invariant in
    subst (AreEnds 0 b.ends)
    (none_begun b.last_end b.ids.items a.1 (ap (λ (v : Building). v.begun) c.self.view_is ∙ c.requires)) a.0
