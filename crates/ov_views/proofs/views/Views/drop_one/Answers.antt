use Rattle.std.proofs.Common.{◌∷◌, ◌++◌, [], sym, subst}
use Rattle.ov_words.specs.Pick.{Choice, Suffice}
use Rattle.ov_words.proofs.PickLemmas.{AreDrawn-append, picked_member, picked_word}
use Rattle.std.specs.Prelude.{List}
use Rattle.ov_views.specs.ViewsState.{ViewsState}
use Rattle.ov_views.specs.Changes.{DropsRandom}
use Rattle.ov_views.specs.declared.change.ViewChange.{ViewChange}
use Rattle.ov_views.proofs.Fields.{views_of}
use Rattle.ov_views.proofs.Keeping.{AreViews-without_active, drops}
use Rattle.ov_views.proofs.Sufficing.{pick_drops, added_after}
use Rattle.ov_views.proofs.views.Views.drop_one.Goals as goal

pub pick-requires : goal.pick-requires
pick-requires c =
    let v = views_of c.self.inside in
    let P : ViewsState → Type 0 = λ u. Suffice c.args.draws.now
    (λ cs. (w : ViewsState) × (changes : List ViewChange) × DropsRandom u cs w changes) in
    rw c.as_slice.ensures.value
    (pick_drops v c.args.draws.now c.self.invariant.limits.passive_low (subst P (sym c.self.view_is) c.requires))

pub invariant_of-self : goal.invariant_of-self
invariant_of-self c = rw c.remove.ensures.value (AreViews-without_active _ _ c.self.invariant)

pub add_passive-requires : goal.add_passive-requires
add_passive-requires c =
    let v = views_of c.self.inside in
    let P : ViewsState → Type 0 = λ u. Suffice c.args.draws.now
    (λ cs. (w : ViewsState) × (changes : List ViewChange) × DropsRandom u cs w changes) in
    let first = rw c.as_slice.ensures.value at c.in_ok-dropped.ensures.drawn in
    rw c.remove.ensures.value
    (added_after v c.in_ok-dropped.dropped _ _ (picked_member _ _ _ _ first) (picked_word _ _ _ _ first)
    (subst P (sym c.self.view_is) c.requires))

pub returns-clause-drawn : goal.returns-clause-drawn
returns-clause-drawn c =
    let v = views_of c.self.inside in
    let first = rw c.as_slice.ensures.value at c.in_ok-dropped.ensures.drawn in
    let h = picked_member _ _ _ _ first in
    let more = rw c.remove.ensures.value at c.add_passive.ensures.drawn in
    let one : List Choice = record { from = c.self.inside.active; member = c.in_ok-dropped.dropped } ∷ [] in (
      one ++ more.0,
      AreDrawn-append one more.0 _ _ _ first more.1,
      rw (← c.self.view_is) (drops v c.in_ok-dropped.dropped more.0 _ h more.2),
    )
