use Rattle.std.proofs.Common.{◌≡◌, None, get_or, length, refl, subst, sym}
use Rattle.std.proofs.lemmas.Option.{slice_get_read}
use Rattle.ov_ids.specs.Members.{Has}
use Rattle.ov_ids.proofs.Members.{has_place}
use Rattle.ov_grow.specs.Broadcasts.{IsSender}
use Rattle.ov_grow.proofs.Going.{chosen, goes_by_choice}
use Rattle.ov_grow.proofs.Healing.{is_item}
use Rattle.ov_grow.proofs.growth_in_progress.Growing.chosen_of.Goals as goal

pub returns-clause-goes : goal.returns-clause-goes
returns-clause-goes c =
    let xs = c.args.nodes.now in
    let left = c.one_of-place.new.self in
    goes_by_choice (λ s u. IsSender None xs s c.index-nodes-place.result u) c.args.self.now left (
      c.one_of-place.result,
      chosen c.args.self.now (length xs) (length xs) c.one_of-place.result left refl c.one_of-place.ensures.value
          c.one_of-place.ensures.left,
      slice_get_read xs (length xs) c.one_of-place.result c.index-nodes-place.result refl
          c.one_of-place.ensures.below c.index-nodes-place.is,
    )

pub returns-clause-among : goal.returns-clause-among
returns-clause-among c =
    let xs = c.args.nodes.now in
    let i = c.one_of-place.result in
    let x = c.index-nodes-place.result in
    let is : x ≡ get_or xs i 0 = is_item xs i x c.one_of-place.ensures.below c.index-nodes-place.is in
    subst (λ a. Has xs a) (sym is) (has_place xs i 0 c.one_of-place.ensures.below)
