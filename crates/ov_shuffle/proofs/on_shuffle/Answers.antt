use Rattle.std.proofs.Common.{◌≡◌, ◌++◌, length, eqb, false, refl, sym, ap, ◌∙◌, ◌≤◌, ◌+◌, arith}
use Rattle.ov_words.proofs.PickLemmas.{AreDrawn-append, none_drawn}
use Rattle.ov_views.specs.ShuffleRows.{walks_on}
use Rattle.ov_views.proofs.Sufficing.{words_integrate}
use Rattle.ov_shuffle.proofs.Counting.{shuffled_words}
use Rattle.ov_shuffle.proofs.WalkLemmas.{not_on, ends}
use Rattle.ov_shuffle.proofs.on_shuffle.Goals as goal

pub integrate-requires : goal.integrate-requires
integrate-requires c =
    let same = ap length (none_drawn _ _ _ c.in_ok-moves.ensures.none c.in-None.is) in
    let few = c.sample-those.ensures.drawn.2.0 in
    words_integrate c.args.views.now c.args.ids.now c.as_slice-2.result.now c.sample-those.new.draws
    (omega (arith, same, few, c.requires.words, c.requires.ids, c.sample-those.ensures.words))

pub returns-clause-allowed : goal.returns-clause-allowed
returns-clause-allowed c =
    let v = c.args.views.now in
    let same = none_drawn _ _ _ c.in_ok-moves.ensures.none c.in-None.is in
    let other : eqb c.args.from v.me ≡ false = rw (← c.me-me.ensures.value) (sym c.eq.ensures ∙ c.if-eq.false) in
    let foreign : eqb c.args.origin v.me ≡ false =
    rw (← c.me-me.ensures.value) (sym c.eq-else-eq.ensures ∙ c.if-eq-2.false) in
    let on : walks_on v c.args.ttl ≡ false =
    not_on v c.args.from c.args.ttl _ other c.in_ok-moves.ensures.handed_on c.in-None.is in
    let those = c.sample-those.result in
    let s = rw same at c.sample-those.ensures.drawn in
    let g = rw c.as_slice-2.ensures.value at c.integrate.ensures.drawn in (
      s.0 ++ g.0,
      AreDrawn-append s.0 g.0 _ _ _ s.1 g.1,
      (λ node. (
        (refl, refl),
        rw (
          c.send.ensures.sends,
          c.send.ensures.changes,
          c.in_ok-moves-2.ensures.sends,
          c.in_ok-moves-2.ensures.changes,
          c.me-me.ensures.value,
          c.new.ensures,
          c.append.ensures.items,
          c.in_ok-list.ensures.items,
          c.as_slice.ensures.value,
        )
            (ends v _ c.args.from c.args.origin c.args.ttl c.args.ids.now those s.0 g.0 other on foreign s.2 g.2),
      )),
    )

pub returns-clause-words : goal.returns-clause-words
returns-clause-words c =
    let same = ap length (none_drawn _ _ _ c.in_ok-moves.ensures.none c.in-None.is) in
    let s = c.sample-those.ensures.drawn in
    let g = rw c.as_slice-2.ensures.value at c.integrate.ensures.drawn in
    let most : length c.walk.new.draws ≤ length c.integrate.new.draws + length c.args.ids.now =
    shuffled_words _ _ _ s.0 g.0 _ _ _ _ s.2 c.sample-those.ensures.words g.1 g.2 in
    omega (arith, same, most, c.requires.ids)
