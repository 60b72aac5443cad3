use Rattle.std.proofs.Common.{◌≡◌, ◌-◌, ◌++◌, ◌∷◌, [], ap, eqb, false, refl, sym, subst, ◌∙◌, List, ℕ}
use Rattle.ov_ids.specs.Sets.{without}
use Rattle.ov_wire.specs.declared.Body.TheVariants.{ForwardJoin}
use Rattle.ov_words.specs.Pick.{Choice, AreDrawn}
use Rattle.ov_words.proofs.PickLemmas.{AreDrawn-append, picked_member}
use Rattle.ov_views.specs.JoinRows.{walk_ends, walk_targets}
use Rattle.ov_views.specs.Sending.{say}
use Rattle.ov_join.proofs.JoinLemmas.{goes_on, remembers_keeps}
use Rattle.ov_join.proofs.on_forward_join.Goals as goal

pub returns-clause-allowed : goal.returns-clause-allowed
returns-clause-allowed c =
    let v = c.args.views.now in
    let w = c.remember.new.views in
    let left = walk_targets v c.args.from c.args.node in
    let s_other : eqb c.args.from v.me ≡ false = rw (← c.me-me.ensures.value) (sym c.eq.ensures ∙ c.if-eq.false) in
    let n_other : eqb c.args.node v.me ≡ false =
    rw (← c.me-me.ensures.value) (sym c.eq-else-eq.ensures ∙ c.if-eq-2.false) in
    let on : walk_ends v c.args.from c.args.node c.args.ttl ≡ false =
    sym c.ends_here.ensures.value ∙ c.if-ends_here.false in
    let first = c.remember.ensures.drawn in
    let kept = remembers_keeps v c.args.node c.args.ttl first.0 w first.2 in
    let same : walk_targets w c.args.from c.args.node ≡ left =
    ap (λ (active : List ℕ). without c.args.node (without c.args.from active)) kept.active in
    let to = c.next_step-to.result.0 in
    let last = subst (λ (targets : List ℕ). AreDrawn (record { from = targets; member = to } ∷ []) c.remember.new.draws
    c.next_step-to.new.draws) same c.next_step-to.ensures.drawn in
    let h = picked_member _ _ _ _ last in
    let message : c.next_step-to.result.1 ≡ say v.me (ForwardJoin c.args.node (c.args.ttl - 1)) =
    c.next_step-to.ensures.message ∙ ap (λ (me : ℕ). say me (ForwardJoin c.args.node (c.args.ttl - 1))) kept.me in
    let one : List Choice = record { from = left; member = to } ∷ [] in (
      first.0 ++ one,
      AreDrawn-append first.0 one _ _ _ first.1 last,
      (λ node. (
        (refl, refl),
        rw (
          c.send-2.ensures.sends,
          c.send-2.ensures.changes,
          c.in_ok-moves.ensures.sends,
          c.in_ok-moves.ensures.changes,
          message,
        )
            (goes_on v _ _ _ first.0 to _ s_other n_other on first.2 h),
      )),
    )
