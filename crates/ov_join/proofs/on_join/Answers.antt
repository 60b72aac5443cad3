use Rattle.std.proofs.Common.{rules, ◌≡◌, ◌≤◌, ◌++◌, ◌∷◌, ◌∙◌, [], eqb, false, sym, ap, length, arith}
use Rattle.ov_wire.specs.declared.Body.TheVariants.{Joined}
use Rattle.ov_views.specs.Sending.{say, farewells}
use Rattle.ov_wire.proofs.Ranges.{Ranged, Ranged-append}
use Rattle.ov_join.proofs.JoinLemmas.{Ranged-forwards, Ranged-farewells, join_fits}
use Rattle.ov_join.proofs.on_join.Goals as goal

pub returns-clause-ranges : goal.returns-clause-ranges
returns-clause-ranges c =
    let me = c.me-me.result in
    let gone = farewells me c.add_active-changes.result in
    let told : Ranged ((c.args.from, say me Joined) ∷ []) = (tt, tt) in
    let first : Ranged (gone ++ (c.args.from, say me Joined) ∷ []) =
    Ranged-append gone _ (Ranged-farewells me c.add_active-changes.result) told in
    let low : c.arwl-ttl.result ≤ 15 = omega (arith, c.arwl-ttl.ensures.value, c.arwl-ttl.ensures.limits.arwl_high) in
    rw (c.forward.ensures.sends, c.send.ensures.sends, c.tell.ensures.sends, c.in_ok-moves.ensures.sends)
    (Ranged-append (gone ++ (c.args.from, say me Joined) ∷ []) _ first
    (Ranged-forwards me c.args.from c.arwl-ttl.result c.as_slice.result.now low))

pub returns-clause-few : goal.returns-clause-few
returns-clause-few c =
    let v = c.args.views.now in
    let other : eqb c.args.from v.me ≡ false = rw (← c.me-me.ensures.value) (sym c.eq.ensures ∙ c.if-eq.false) in
    let added = c.add_active-changes.ensures.drawn in
    let fits = join_fits c.me-me.result v c.args.from added.0 _ _ other added.2 c.params.ensures.views in
    omega (
      arith,
      fits,
      c.forward.ensures.len,
      c.send.ensures.len,
      c.tell.ensures.len,
      ap length c.in_ok-moves.ensures.sends,
      ap length (c.as_slice.ensures.value ∙ c.all_but-others.ensures.value),
    )

pub forward-requires : goal.forward-requires
forward-requires c =
    let v = c.args.views.now in
    let other : eqb c.args.from v.me ≡ false = rw (← c.me-me.ensures.value) (sym c.eq.ensures ∙ c.if-eq.false) in
    let added = c.add_active-changes.ensures.drawn in
    let fits = join_fits c.me-me.result v c.args.from added.0 _ _ other added.2 c.params.ensures.views in record {
      for_sends = omega (
        arith,
        fits,
        c.send.ensures.len,
        c.tell.ensures.len,
        c.send.ensures.capacity,
        c.tell.ensures.capacity,
        c.in_ok-moves.ensures.room.for_sends,
        ap length c.in_ok-moves.ensures.sends,
        ap length (c.as_slice.ensures.value ∙ c.all_but-others.ensures.value),
      );
      for_changes = search rules;
    }
