use Rattle.std.proofs.Common.{◌≡◌, ◌++◌, eqb, true, false, refl, sym, ap, ◌∙◌, rules}
use Rattle.ov_ids.specs.Sets.{has}
use Rattle.ov_words.proofs.PickLemmas.{AreDrawn-append}
use Rattle.ov_views.specs.ViewsState.{ViewsState}
use Rattle.ov_views.specs.NeighborRows.{starts_attempt}
use Rattle.ov_neighbor.proofs.Parting.{attempt_starts}
use Rattle.ov_neighbor.proofs.attempt.on_disconnect.Goals as goal

pub returns-then-starts-clause-allowed : goal.returns-then-starts-clause-allowed
returns-then-starts-clause-allowed c =
    let v = c.args.views.now in
    let u = c.remove_active-changes.new.self in
    let other : eqb c.args.from v.me ≡ false = rw (← c.me.ensures.value) (sym c.eq.ensures ∙ c.if-eq.false) in
    let active : has v.active c.args.from ≡ true =
    search (rules, c.is_active.ensures.value, c.if-not-is_active.false) in
    let gone = c.remove_active-changes.ensures.removed in
    let rule : u.params ≡ v.params = ap (λ (w : ViewsState). w.params) gone.0 in
    let starts : starts_attempt v.params.refill u ≡ true =
    ap (λ p. starts_attempt p.refill u) (sym rule) ∙ sym c.starts_attempt-starts.ensures ∙ c.if-starts.true in
    let first = c.add_passive.ensures.drawn in
    let next = c.begin_anew-attempt-inside.ensures.allowed in (
      first.0 ++ next.0,
      AreDrawn-append first.0 next.0 _ _ _ first.1 next.1,
      (λ n. (
        refl,
        rw (c.begin_anew-attempt-inside.ensures.changes, c.tell_changes.ensures.changes, c.in_ok-moves.ensures.changes)
            (attempt_starts v c.args.attempt.now c.args.from u first.0 next.0 _ _ _ _ other active gone starts first.2
            next.2),
      )),
    )
