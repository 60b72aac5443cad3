use Rattle.std.proofs.Common.{◌≡◌, ◌++◌, ◌∷◌, [], ap, List, refl, ◌∙◌}
use Rattle.ov_ids.specs.ParamsState.{ParamsState}
use Rattle.ov_words.specs.Pick.{Choice}
use Rattle.ov_words.proofs.PickLemmas.{AreDrawn-append, picked_member}
use Rattle.ov_shuffle.proofs.WalkLemmas.{starts}
use Rattle.ov_shuffle.proofs.start.Goals as goal

pub returns-clause-allowed : goal.returns-clause-allowed
returns-clause-allowed c =
    let v = c.args.views.now in
    let set : c.active.result.now ≡ v.active = c.active.ensures.value in
    let picked = rw set at c.in-Some.ensures.drawn in
    let h = picked_member _ _ _ _ picked in
    let ka : c.ka.result ≡ v.params.ka = c.ka.ensures.value
    ∙ ap (λ (p : ParamsState). p.ka) c.params-params.ensures.value in
    let kp : c.kp.result ≡ v.params.kp = c.kp.ensures.value
    ∙ ap (λ (p : ParamsState). p.kp) c.params-params.ensures.value in
    let ttl : c.shuffle_ttl.result ≡ v.params.shuffle_ttl = c.shuffle_ttl.ensures.value
    ∙ ap (λ (p : ParamsState). p.shuffle_ttl) c.params-params.ensures.value in
    let actives = rw ka at c.sample-actives.ensures.drawn in
    let passives = rw kp at c.sample-passives.ensures.drawn in
    let one : List Choice = record { from = v.active; member = c.in-Some.to } ∷ [] in
    let kept : c.keep.new.self ≡ v.me ∷ (c.sample-actives.result ++ c.sample-passives.result) =
    rw (c.keep.ensures, c.write.ensures, c.as_slice.ensures.value, c.as_slice-2.ensures.value, c.me-me.ensures.value)
    refl in
    let listed : c.new.result ≡ c.keep.new.self =
    rw (
      c.new.ensures,
      c.write-2.ensures,
      c.as_slice-3.ensures.value,
      c.as_slice-4.ensures.value,
      c.me-me.ensures.value,
      kept,
    ) refl in (
      one ++ (actives.0 ++ passives.0),
      AreDrawn-append one (actives.0 ++ passives.0) _ _ _ picked
          (AreDrawn-append actives.0 passives.0 _ _ _ actives.1 passives.1),
      (λ node. (
        refl,
        refl,
        rw (c.send.ensures.changes, c.in_ok-moves.ensures.changes) refl,
        rw (c.send.ensures.sends, c.in_ok-moves.ensures.sends, listed, ttl, c.me-me.ensures.value)
            (starts v c.args.sent.now c.in-Some.to actives.0 passives.0 c.sample-actives.result
            c.sample-passives.result c.keep.new.self h actives.2 passives.2 kept),
      )),
    )
