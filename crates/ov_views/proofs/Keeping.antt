-- What the operations on views keep.
use Rattle.std.proofs.Common.{◌≡◌, ◌≢◌, ℕ, ◌<◌, true, false, eqb, List, [], ◌∷◌, ◌++◌, length, refl, sym, ap}
use Rattle.std.proofs.Common.{subst, inl, inr, arith, ◌⊎◌}
use Rattle.std.proofs.lemmas.Bool.{ne_eqb, or_parts, eqb-false, both_ways, eqb-true}
use Rattle.std.specs.Prelude.{MatchBool, Option, Some, None}
use Rattle.ov_ids.specs.Sets.{has, IsIn, adding, without}
use Rattle.ov_ids.proofs.Cases.{either_way}
use Rattle.ov_ids.proofs.Sets.{IsSet-adding, IsSet-without, IsIn-adding, IsIn-without, length-adding, length-without}
use Rattle.ov_ids.proofs.Sets.{length-without_less}
use Rattle.ov_words.specs.Pick.{Choice}
use Rattle.ov_views.specs.ViewsState.{ViewsState, AreViews, has_passive_place, is_close, is_known}
use Rattle.ov_views.specs.Changes.{AddsPassive, DropsRandom, MakesRoom, AddsActive, Keeps, Chosen}
use Rattle.ov_views.specs.Code.ChangeOrder.{in_order}
use Rattle.ov_views.specs.declared.change.ViewChange.{ViewChange}
use Rattle.ov_views.specs.declared.change.ViewChange.TheVariants.{Up, Down}

-- x is neither the node itself nor active
pub record AreOthers (v : ViewsState) (x : ℕ) : Type 0 where
  pub differs : x ≢ v.me
  pub inactive : ¬ IsIn v.active x

pub others : (v : ViewsState) (x : ℕ) → is_close v x ≡ false → AreOthers v x
others v x e =
    let parts = or_parts (eqb x v.me) (has v.active x) e in
    record { differs = eqb-false x v.me parts.0; inactive = both_ways _ parts.1 }

pub AreViews-without_active : (v : ViewsState) (x : ℕ) → AreViews v →
    AreViews (record v { active = without x v.active })
AreViews-without_active v x a = record {
  limits = a.limits;
  active_set = IsSet-without x v.active a.active_set;
  passive_set = a.passive_set;
  active_size = omega (arith, length-without x v.active, a.active_size);
  passive_size = a.passive_size;
  active_others = λ h. a.active_others (IsIn-without x v.active v.me h).1;
  passive_others = a.passive_others;
  apart = λ z h. a.apart z (IsIn-without x v.active z h).1;
}

pub AreViews-without_passive : (v : ViewsState) (x : ℕ) → AreViews v →
    AreViews (record v { passive = without x v.passive })
AreViews-without_passive v x a = record {
  limits = a.limits;
  active_set = a.active_set;
  passive_set = IsSet-without x v.passive a.passive_set;
  active_size = a.active_size;
  passive_size = omega (arith, length-without x v.passive, a.passive_size);
  active_others = a.active_others;
  passive_others = λ h. a.passive_others (IsIn-without x v.passive v.me h).1;
  apart = λ z h k. a.apart z h (IsIn-without x v.passive z k).1;
}

pub AreViews-adding_passive : (v : ViewsState) (x : ℕ) → AreViews v → length v.passive < v.params.passive →
    AreOthers v x → AreViews (record v { passive = adding x v.passive })
AreViews-adding_passive v x a room o = record {
  limits = a.limits;
  active_set = a.active_set;
  passive_set = IsSet-adding x v.passive a.passive_set;
  active_size = a.active_size;
  passive_size = omega (arith, length-adding x v.passive);
  active_others = a.active_others;
  passive_others = λ h. elim (IsIn-adding x v.passive v.me h)
      [ inl e ↦ o.differs (sym e) | inr k ↦ a.passive_others k ];
  apart = λ z h k. elim (IsIn-adding x v.passive z k)
      [ inl e ↦ o.inactive (subst (IsIn v.active) e h) | inr m ↦ a.apart z h m ];
}

pub AreViews-replacing : (v : ViewsState) (x d : ℕ) → AreViews v → IsIn v.passive d → AreOthers v x →
    AreViews (record v { passive = adding x (without d v.passive) })
AreViews-replacing v x d a h o =
    AreViews-adding_passive (record v { passive = without d v.passive }) x (AreViews-without_passive v d a)
    (omega (arith, length-without_less d v.passive h, a.passive_size))
    (record { differs = o.differs; inactive = o.inactive })

pub AreViews-adding_active : (v : ViewsState) (x : ℕ) → AreViews v → length v.active < v.params.active → x ≢ v.me →
    ¬ IsIn v.passive x → AreViews (record v { active = adding x v.active })
AreViews-adding_active v x a room differs impassive = record {
  limits = a.limits;
  active_set = IsSet-adding x v.active a.active_set;
  passive_set = a.passive_set;
  active_size = omega (arith, length-adding x v.active);
  passive_size = a.passive_size;
  active_others = λ h. elim (IsIn-adding x v.active v.me h) [ inl e ↦ differs (sym e) | inr k ↦ a.active_others k ];
  passive_others = a.passive_others;
  apart = λ z h k. elim (IsIn-adding x v.active z h)
      [ inl e ↦ impassive (subst (IsIn v.passive) e k) | inr m ↦ a.apart z m k ];
}

-- x may enter the passive view, others may leave it, and nothing else changes
pub record KeepsActive (v : ViewsState) (x : ℕ) (w : ViewsState) : Type 0 where
  pub me : w.me ≡ v.me
  pub params : w.params ≡ v.params
  pub active : w.active ≡ v.active
  pub passive : (z : ℕ) → IsIn w.passive z → (z ≡ x) ⊎ IsIn v.passive z

pub same_keeps : (v w : ViewsState) (x : ℕ) → w ≡ v → KeepsActive v x w
same_keeps v w x e = record {
  me = ap (λ (u : ViewsState). u.me) e;
  params = ap (λ (u : ViewsState). u.params) e;
  active = ap (λ (u : ViewsState). u.active) e;
  passive = λ z h. let P : ViewsState → Type 0 = λ u. IsIn u.passive z in inr (subst P e h);
}

with_keeps : (v w : ViewsState) (x : ℕ) (q : List ℕ) → w ≡ record v { passive = q } →
    ((z : ℕ) → IsIn q z → (z ≡ x) ⊎ IsIn v.passive z) → KeepsActive v x w
with_keeps v w x q e f = record {
  me = ap (λ (u : ViewsState). u.me) e;
  params = ap (λ (u : ViewsState). u.params) e;
  active = ap (λ (u : ViewsState). u.active) e;
  passive = λ z h. let P : ViewsState → Type 0 = λ u. IsIn u.passive z in f z (subst P e h);
}

or_else : (x d z : ℕ) (q : List ℕ) → IsIn (adding x (without d q)) z → (z ≡ x) ⊎ IsIn q z
or_else x d z q h = elim (IsIn-adding x (without d q) z h) as (λ _. (z ≡ x) ⊎ IsIn q z)
    [ inl e ↦ inl e | inr k ↦ inr (IsIn-without d q z k).1 ]

pub AddsPassive-keeps : (v : ViewsState) (x : ℕ) (cs : List Choice) (w : ViewsState) → AddsPassive v x cs w →
    KeepsActive v x w
AddsPassive-keeps v x cs w =
    either_way (is_known v x) _ _ _ (λ k. same_keeps v w x k.1)
    (either_way (has_passive_place v) _ _ _
    (λ r. with_keeps v w x (adding x v.passive) r.1 (λ z. IsIn-adding x v.passive z))
    (λ f. with_keeps v w x (adding x (without f.0 v.passive)) f.2 (λ z. or_else x f.0 z v.passive)))

-- somebody left the active view, and whoever is passive then was in one of the views
pub record KeepsFewer (v : ViewsState) (w : ViewsState) : Type 0 where
  pub me : w.me ≡ v.me
  pub params : w.params ≡ v.params
  pub fewer : length w.active < length v.active
  pub passive : (z : ℕ) → IsIn w.passive z → IsIn v.active z ⊎ IsIn v.passive z

pub DropsRandom-keeps : (v : ViewsState) (cs : List Choice) (w : ViewsState) (changes : List ViewChange) →
    0 < length v.active → DropsRandom v cs w changes → KeepsFewer v w
DropsRandom-keeps v cs w changes some h =
    let Goes : Type 0 = (d : ℕ) × (rest : List Choice) × Chosen v.active d cs rest
    × AddsPassive (record v { active = without d v.active }) d rest w × (changes ≡ Down d ∷ []) in
    elim (eqb (length v.active) 0) as
    (λ b. eqb (length v.active) 0 ≡ b → MatchBool b (Keeps v cs w × (changes ≡ [])) Goes → KeepsFewer v w) [
      | true ↦ λ e _. absurd (omega (arith, eqb-true _ _ e))
      | false ↦ λ _ g. let k : KeepsActive (record v { active = without g.0 v.active }) g.0 w =
          AddsPassive-keeps _ _ _ _ g.3 in record {
            me = k.me;
            params = k.params;
            fewer = omega (arith, ap length k.active, length-without_less g.0 v.active g.2.0);
            passive = λ z m. elim (k.passive z m) as (λ _. IsIn v.active z ⊎ IsIn v.passive z)
                [ inl e ↦ inl (subst (IsIn v.active) (sym e) g.2.0) | inr r ↦ inr r ];
          }
    ] refl h

-- a random active member is dropped
pub drops : (v : ViewsState) (d : ℕ) (rest : List Choice) (w : ViewsState) → IsIn v.active d →
    AddsPassive (record v { active = without d v.active }) d rest w →
    DropsRandom v (record { from = v.active; member = d } ∷ rest) w (Down d ∷ [])
drops v d rest w h adds = rw (ne_eqb (length v.active) 0 (omega (arith, length-without_less d v.active h)))
    (d, rest, (h, refl), adds, refl)

-- x becomes active once a place is free
pub enters : (v : ViewsState) (x : ℕ) (cs : List Choice) (u : ViewsState) (drops : List ViewChange) →
    is_close v x ≡ false → MakesRoom (record v { passive = without x v.passive }) cs u drops →
    AddsActive v x cs (record u { active = adding x u.active }) (drops ++ Up x ∷ [])
enters v x cs u drops far makes = rw far (u, drops, makes, refl, refl)

-- who comes up comes up last
pub comes_up : (down : Option ℕ) (x : ℕ) → in_order down (Some x) ≡ in_order down None ++ Up x ∷ []
comes_up None x = refl
comes_up (Some d) x = refl
