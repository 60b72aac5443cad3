use Rattle.std.proofs.Common.{◌≡◌, ℕ, List, [], true, false, length, get_or, refl, sym, subst, arith}
use Rattle.std.proofs.lemmas.Bool.{lt-ltb, le-ltb}
use Rattle.std.proofs.lemmas.Option.{slice_get-get_or}
use Rattle.std.specs.Prelude.{Some, slice_get}
use Rattle.ov_words.specs.Pick.{Suffice}
use Rattle.ov_views.specs.ViewsState.{ViewsState, has_passive_place, is_known}
use Rattle.ov_views.specs.Sampling.{TakesIn}
use Rattle.ov_views.proofs.Giving.{member_there, unknown, taken_passive, taken_with_room, taken_for}
use Rattle.ov_views.proofs.Fields.{views_of, is_far}
use Rattle.ov_views.proofs.Keeping.{others, AreViews-adding_passive, AreViews-replacing}
use Rattle.ov_views.proofs.Sufficing.{given_up}
use Rattle.ov_views.proofs.views.Views.take_in.Goals as goal

pub returns-in_default-clause-drawn : goal.returns-in_default-clause-drawn
returns-in_default-clause-drawn c =
    let v = views_of c.self.inside in
    ([], refl, rw (← c.self.view_is) (taken_passive v c.args.id c.args.sent.now c.in_default.ensures.none))

pub invariant_of-self : goal.invariant_of-self
invariant_of-self c =
    let v = views_of c.self.inside in
    let far = is_far c.self.inside _ c.args.id _ c.self.view_is c.is_close.ensures.close c.if-is_close.false in
    rw c.insert_at.ensures (AreViews-adding_passive v _ c.self.invariant (omega arith) (others v _ far))

pub returns-then-len-passive-clause-drawn : goal.returns-then-len-passive-clause-drawn
returns-then-len-passive-clause-drawn c =
    let v = views_of c.self.inside in
    let far = is_far c.self.inside _ c.args.id _ c.self.view_is c.is_close.ensures.close c.if-is_close.false in
    let new : is_known v c.args.id ≡ false = unknown v c.args.id far c.in-Some.ensures.some.0 in
    let room : has_passive_place v ≡ true =
    lt-ltb (length c.self.inside.passive) c.self.inside.params.passive (omega arith) in (
      [],
      refl,
      rw (c.insert_at.ensures, ← c.self.view_is) (taken_with_room v c.args.id c.args.sent.now new room),
    )

pub give_up-place-requires-clause-words : goal.give_up-place-requires-clause-words
give_up-place-requires-clause-words c =
    let v = views_of c.self.inside in
    let far = is_far c.self.inside _ c.args.id _ c.self.view_is c.is_close.ensures.close c.if-is_close.false in
    let new : is_known v c.args.id ≡ false = unknown v c.args.id far c.in-Some.ensures.some.0 in
    let full : has_passive_place v ≡ false =
    le-ltb (length c.self.inside.passive) c.self.inside.params.passive (omega arith) in
    let P : ViewsState → Type 0 = λ u. Suffice c.args.draws.now
    (λ cs. (w : ViewsState) × (left : List ℕ) × TakesIn u c.args.id c.args.sent.now cs w left) in
    given_up v c.args.id c.args.sent.now c.args.draws.now new full (subst P (sym c.self.view_is) c.requires)

pub invariant_of-self-2 : goal.invariant_of-self-2
invariant_of-self-2 c =
    let v = views_of c.self.inside in
    let far = is_far c.self.inside _ c.args.id _ c.self.view_is c.is_close.ensures.close c.if-is_close.false in
    let d : ℕ = get_or c.self.inside.passive c.give_up-place.result.0 0 in
    let at : slice_get c.self.inside.passive c.give_up-place.result.0 ≡ Some d =
    slice_get-get_or c.self.inside.passive c.give_up-place.result.0 0 c.give_up-place.ensures.within in
    rw (c.replace_at.ensures d at)
    (AreViews-replacing v _ d c.self.invariant (member_there c.self.inside.passive _ d at) (others v _ far))

pub returns-clause-drawn : goal.returns-clause-drawn
returns-clause-drawn c =
    let v = views_of c.self.inside in
    let far = is_far c.self.inside _ c.args.id _ c.self.view_is c.is_close.ensures.close c.if-is_close.false in
    let new : is_known v c.args.id ≡ false = unknown v c.args.id far c.in-Some.ensures.some.0 in
    let full : has_passive_place v ≡ false =
    le-ltb (length c.self.inside.passive) c.self.inside.params.passive (omega arith) in
    let d : ℕ = get_or c.self.inside.passive c.give_up-place.result.0 0 in
    let at : slice_get c.self.inside.passive c.give_up-place.result.0 ≡ Some d =
    slice_get-get_or c.self.inside.passive c.give_up-place.result.0 0 c.give_up-place.ensures.within in
    let given = c.give_up-place.ensures.drawn d at in (
      given.0,
      given.1,
      rw (c.replace_at.ensures d at, ← c.self.view_is)
          (taken_for v c.args.id c.args.sent.now d _ given.0 new full given.2),
    )
