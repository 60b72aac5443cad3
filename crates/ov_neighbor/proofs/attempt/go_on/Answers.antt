use Rattle.std.proofs.Common.{◌≡◌, ◌∷◌, [], eqb, true, false, length, refl, sym, ◌∙◌, ap, rules, List}
use Rattle.std.proofs.lemmas.Bool.{ne_eqb}
use Rattle.ov_ids.specs.Sets.{without_all}
use Rattle.ov_views.specs.ViewsState.{has_place}
use Rattle.ov_views.specs.NeighborRows.{gives_up, untried}
use Rattle.ov_words.proofs.PickLemmas.{picked_member}
use Rattle.ov_neighbor.proofs.AttemptState.{asks, asked_attempt, left_untried}
use Rattle.ov_neighbor.proofs.attempt.go_on.Goals as goal

pub enter-requires-clause-untried : goal.enter-requires-clause-untried
enter-requires-clause-untried c =
    let v = c.args.views.now in
    let tried = c.args.tried.now.items in
    let set : c.all_but-untried.result ≡ untried v tried =
    c.all_but-untried.ensures.value ∙ ap (λ (ts : List _). without_all ts v.passive) c.as_slice.ensures.value in
    let drawn = rw (c.as_slice-2.ensures.value ∙ set) at c.in-Some.ensures.drawn in
    left_untried tried v.passive c.in-Some.next (picked_member _ _ _ _ drawn)

pub returns-clause-allowed : goal.returns-clause-allowed
returns-clause-allowed c =
    let v = c.args.views.now in
    let tried = c.args.tried.now.items in
    let set : c.all_but-untried.result ≡ untried v tried =
    c.all_but-untried.ensures.value ∙ ap (λ (ts : List _). without_all ts v.passive) c.as_slice.ensures.value in
    let place : has_place v ≡ true = sym c.has_place.ensures ∙ c.if-not-has_place.false in
    let some : eqb (length (untried v tried)) 0 ≡ false =
    rw (← set) (ne_eqb _ _ (search (rules, c.if-len-eq0.false, c.len.ensures.value))) in
    let on : gives_up v tried ≡ false = rw (place, some) refl in
    let slice = c.as_slice-2.ensures.value ∙ set in
    let drawn = rw slice at c.in-Some.ensures.drawn in
    let h = picked_member _ _ _ _ drawn in
    let high : c.is_empty.result ≡ eqb (length v.active) 0 =
    c.is_empty.ensures ∙ ap (λ (xs : List _). eqb (length xs) 0) c.active.ensures.value in (
      record { from = untried v tried; member = c.in-Some.next } ∷ [],
      drawn,
      rw (c.enter.ensures, c.send.ensures.sends, c.requires.none, c.me.ensures.value, high)
          (asks v tried c.in-Some.next on h),
    )

pub returns-clause-attempt : goal.returns-clause-attempt
returns-clause-attempt c = rw c.enter.ensures (asked_attempt c.args.tried.now.items c.in-Some.next c.requires.set)
