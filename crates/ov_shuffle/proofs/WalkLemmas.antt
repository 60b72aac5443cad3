-- A shuffle starts, walks on, or ends.
use Rattle.std.proofs.Common.{◌≡◌, ℕ, ◌-◌, false, true, eqb, List, [], ◌∷◌, ◌++◌, length, refl, sym, arith}
use Rattle.std.specs.Prelude.{Option, None, is_some}
use Rattle.std.proofs.lemmas.Bool.{ne_eqb}
use Rattle.ov_ids.proofs.Cases.{where_true, where_false}
use Rattle.ov_ids.specs.Sets.{IsIn, without}
use Rattle.ov_ids.proofs.Sets.{length-without_less}
use Rattle.ov_wire.specs.declared.Body.TheVariants.{Shuffle, ShuffleReply}
use Rattle.ov_words.specs.Pick.{Choice}
use Rattle.ov_views.specs.ViewsState.{ViewsState}
use Rattle.ov_views.specs.Sampling.{Samples, Integrates}
use Rattle.ov_views.specs.Sending.{say}
use Rattle.ov_views.specs.ShuffleRows.{AllowedStart, AllowedShuffle, walks_on, is_handed_on}
use Rattle.ov_views.specs.declared.step_effects.Moves.{Moves}

pub walks : (v : ViewsState) (s o ttl : ℕ) (ids : List ℕ) (target : ℕ) → eqb s v.me ≡ false → walks_on v ttl ≡ true →
    IsIn (without s v.active) target →
    AllowedShuffle v s o ttl ids (record { from = without s v.active; member = target } ∷ []) v []
    ((target, say v.me (Shuffle o (ttl - 1) ids)) ∷ [])
walks v s o ttl ids target other on h =
    where_false _ _ _ other (where_true _ _ _ on (target, (h, refl), refl, refl, refl))

pub ends : (v w : ViewsState) (s o ttl : ℕ) (ids those : List ℕ) (first last : List Choice) → eqb s v.me ≡ false →
    walks_on v ttl ≡ false → eqb o v.me ≡ false →
    Samples v.passive (length ids) first those → Integrates v ids those last w →
    AllowedShuffle v s o ttl ids (first ++ last) w [] ((o, say v.me (ShuffleReply those)) ∷ [])
ends v w s o ttl ids those first last other on foreign samples integrates =
    where_false _ _ _ other (where_false _ _ _ on
    (where_false _ _ _ foreign (first, last, those, refl, samples, integrates, refl, refl)))

pub starts : (v : ViewsState) (sent : List ℕ) (target : ℕ) (first last : List Choice) (actives passives kept : List ℕ) →
    IsIn v.active target → Samples v.active v.params.ka first actives → Samples v.passive v.params.kp last passives →
    kept ≡ v.me ∷ (actives ++ passives) →
    AllowedStart v sent (record { from = v.active; member = target } ∷ (first ++ last)) kept
    ((target, say v.me (Shuffle v.me v.params.shuffle_ttl kept)) ∷ [])
starts v sent target first last actives passives kept h s t e =
    where_false _ _ _ (ne_eqb (length v.active) 0 (omega (arith, length-without_less target v.active h))) (record {
      receiver = target;
      active_sample = actives;
      passive_sample = passives;
      active_choices = first;
      passive_choices = last;
      receiver_chosen = (h, refl);
      active_sampled = s;
      passive_sampled = t;
      listed = e;
      sent = refl;
    })

-- a shuffle from another node that is not handed on ends
pub not_on : (v : ViewsState) (s ttl : ℕ) (walked : Option Moves) → eqb s v.me ≡ false →
    is_some walked ≡ is_handed_on v s ttl → walked ≡ None → walks_on v ttl ≡ false
not_on v s ttl walked other handed none =
    let ends : false ≡ is_handed_on v s ttl = rw none at handed in sym (rw other at ends)
