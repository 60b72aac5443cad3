use Rattle.std.proofs.Common.{◌≡◌, ◌∷◌, [], eqb, false, refl, sym, ◌∙◌, List}
use Rattle.ov_ids.proofs.Cases.{where_false}
use Rattle.ov_words.specs.Pick.{Choice}
use Rattle.ov_words.proofs.PickLemmas.{picked_member}
use Rattle.ov_views.specs.JoinRows.{Remembers, walk_ends, walk_targets}
use Rattle.ov_join.proofs.JoinLemmas.{goes_on}
use Rattle.ov_join.proofs.walk_that_goes_on.walk.Goals as goal

pub returns-clause-allowed : goal.returns-clause-allowed
returns-clause-allowed c =
    let v = c.args.views.now in
    let s_other : eqb c.args.from v.me ≡ false = rw (← c.me-me.ensures.value) (sym c.eq.ensures ∙ c.if-eq.false) in
    let n_other : eqb c.args.node v.me ≡ false =
    rw (← c.me-me.ensures.value) (sym c.eq-else-eq.ensures ∙ c.if-eq-2.false) in
    let on : walk_ends v c.args.from c.args.node c.args.ttl ≡ false =
    sym c.ends_here.ensures.value ∙ c.if-ends_here.false in
    let none : Remembers v c.args.node c.args.ttl [] v =
    where_false _ _ _ (sym c.is_remembered.ensures ∙ c.if-is_remembered.false) (refl, refl) in
    let to = c.next_step-to.result.0 in
    let drawn = c.next_step-to.ensures.drawn in
    let h = picked_member _ _ _ _ drawn in
    let one : List Choice = record { from = walk_targets v c.args.from c.args.node; member = to } ∷ [] in (
      one,
      drawn,
      (λ node. (
        (refl, refl),
        rw (
          c.send.ensures.sends,
          c.send.ensures.changes,
          c.in_ok-moves.ensures.sends,
          c.in_ok-moves.ensures.changes,
          c.next_step-to.ensures.message,
        )
            (goes_on v _ _ _ [] to _ s_other n_other on none h),
      )),
    )
