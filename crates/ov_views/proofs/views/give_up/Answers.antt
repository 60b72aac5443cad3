use Rattle.std.proofs.Common.{◌≡◌, [], ◌∷◌, refl, sym, ap, length, arith, rules}
use Rattle.std.proofs.lemmas.List.{nil_from_length}
use Rattle.ov_words.proofs.PickLemmas.{drawn_at}
use Rattle.ov_views.proofs.Giving.{passed_more, none_left, next_given, random_given}
use Rattle.ov_views.proofs.Sufficing.{pick_gives}
use Rattle.ov_views.proofs.views.give_up.Goals as goal

pub returns-in-Some-member_place-clause-drawn : goal.returns-in-Some-member_place-clause-drawn
returns-in-Some-member_place-clause-drawn c = λ d at.
    let e : c.loop-next.left.now ≡ c.in-Some.next.now ∷ c.in-Some.rest.now = search rules in
    let i = c.in-Some-member_place.place in
    ([], refl, next_given _ _ _ _ _ i d c.loop-next.invariant e c.in-Some-member_place.ensures.some at)

pub loop-next-preserved : goal.loop-next-preserved
loop-next-preserved c =
    let e : c.loop-next.left.now ≡ c.in-Some.next.now ∷ c.in-Some.rest.now = search rules in
    passed_more _ _ _ _ _ c.loop-next.invariant e c.in-None.ensures.none

pub place-place-requires-clause-word : goal.place-place-requires-clause-word
place-place-requires-clause-word c =
    let none : c.loop-next.left.now ≡ [] = nil_from_length _ c.in_default.ensures.cases in
    pick_gives c.args.passive.now c.args.sent.now c.args.draws.now (none_left _ _ _ c.loop-next.invariant none)
    c.requires.words c.requires.some

pub returns-clause-drawn : goal.returns-clause-drawn
returns-clause-drawn c = λ d at.
    let none : c.loop-next.left.now ≡ [] = nil_from_length _ c.in_default.ensures.cases in
    random_given _ _ _ _ d _ _ c.loop-next.invariant none at
    (drawn_at c.args.passive.now _ _ d _ _ c.place-place.ensures.drawn (sym c.len.ensures.value) at)

pub returns-clause-words : goal.returns-clause-words
returns-clause-words c = let word = ap length c.place-place.ensures.drawn.1 in omega (arith, word)
