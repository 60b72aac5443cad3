use Rattle.std.proofs.Common.{◌∙◌, List, ℕ, sym, subst}
use Rattle.ov_ids.specs.Members.{Has, Ascends}
use Rattle.ov_graph.proofs.PlaceLists.Reading.{found_by_search}
use Rattle.ov_graph.proofs.place_list.PlaceList.has.Goals as goal

pub returns : goal.returns
returns c =
    let x = c.args.place in
    let same = c.deref.ensures.value ∙ c.self.view_is in
    let up = subst Ascends (sym same) c.requires.ascend in
    let b = found_by_search c.deref.result.now x c.binary_search.result up c.binary_search.ensures.position in
    let is = c.is_ok.ensures.value in (
      (λ t. subst (λ (xs : List ℕ). Has xs x) same (b.0 (sym is ∙ t))),
      (λ h. is ∙ b.1 (subst (λ (xs : List ℕ). Has xs x) (sym same) h)),
    )
