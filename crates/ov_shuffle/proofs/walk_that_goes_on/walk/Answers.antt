use Rattle.std.proofs.Common.{◌≡◌, ◌∷◌, [], ap, eqb, false, length, true, refl, sym, ◌∙◌, arith}
use Rattle.ov_ids.specs.Sets.{without}
use Rattle.ov_ids.proofs.Sets.{length-without_set}
use Rattle.ov_words.proofs.PickLemmas.{picked_member}
use Rattle.ov_views.specs.ShuffleRows.{walks_on}
use Rattle.ov_shuffle.proofs.WalkLemmas.{walks}
use Rattle.ov_shuffle.proofs.walk_that_goes_on.walk.Goals as goal

pub unreachable-requires : goal.unreachable-requires
unreachable-requires c =
    let active = c.args.views.now.active in
    let none : without c.args.from active ≡ [] = c.in-None.ensures.empty.0 refl in
    let most = length-without_set c.args.from active c.me-me.ensures.views.active_set in
    omega (arith, ap length none, most, c.walks_on.ensures.others c.if-not-walks_on.false)

pub returns-clause-allowed : goal.returns-clause-allowed
returns-clause-allowed c =
    let v = c.args.views.now in
    let other : eqb c.args.from v.me ≡ false = rw (← c.me-me.ensures.value) (sym c.eq.ensures ∙ c.if-eq.false) in
    let on : walks_on v c.args.ttl ≡ true = sym c.walks_on.ensures.value ∙ c.if-not-walks_on.false in
    let drawn = c.in-Some.ensures.drawn in
    let h = picked_member _ _ _ _ drawn in (
      record { from = without c.args.from v.active; member = c.in-Some.to } ∷ [],
      drawn,
      (λ node. (
        (refl, refl),
        rw (
          c.send.ensures.sends,
          c.send.ensures.changes,
          c.in_ok-moves.ensures.sends,
          c.in_ok-moves.ensures.changes,
          c.me-me.ensures.value,
          c.new.ensures,
          c.append.ensures.items,
          c.in_ok-list.ensures.items,
        )
            (walks v c.args.from c.args.origin c.args.ttl c.args.ids.now c.in-Some.to other on h),
      )),
    )
