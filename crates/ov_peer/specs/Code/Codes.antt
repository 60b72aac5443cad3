-- Codes of a node's parts, so that contracts can see a node as a value. They say nothing about it.
use Rattle.std.specs.Prelude.{◌≡◌, ℕ, Bool, true, false, List, Option, Some, None, refl}
use Rattle.std.specs.Coded.{Coded, code_by, coded×, coded_ℕ, coded_bool, coded_list, coded_option}
use Rattle.ov_ids.specs.declared.refill_rule.Refill.{Refill}
use Rattle.ov_ids.specs.declared.refill_rule.Refill.TheVariants.{Never, Alone, Always}
use Rattle.ov_ids.specs.declared.world_scale.Scale.{Scale}
use Rattle.ov_ids.specs.declared.world_scale.Scale.TheVariants.{Profile, Large}
use Rattle.ov_ids.specs.ParamsState.{ParamsState}
use Rattle.ov_views.specs.ViewsState.{ViewsState}
use Rattle.ov_views.specs.NeighborRows.{AttemptState}
use Rattle.ov_views.specs.Allowed.{HyParViewState}
use Rattle.ov_plum.specs.PlumState.{PlumState}
use Rattle.ov_plum.specs.Code.Codes.{plum_code}
use Rattle.ov_peer.specs.PeerState.{PeerState}

-- a rule is coded as a choice that may be missing
abbrev rule_cases : Refill → Option Bool
rule_cases Never = None
rule_cases Alone = Some false
rule_cases Always = Some true

abbrev rule_of : Option Bool → Refill
rule_of None = Never
rule_of (Some false) = Alone
rule_of (Some true) = Always

pub rule_back : (r : Refill) → rule_of (rule_cases r) ≡ r
rule_back Never = refl
rule_back Alone = refl
rule_back Always = refl

abbrev rule_code : Coded Refill
rule_code = code_by (Option Bool) (coded_option coded_bool) rule_cases rule_of rule_back

abbrev is_large : Scale → Bool
is_large Profile = false
is_large Large = true

abbrev scale_of : Bool → Scale
scale_of false = Profile
scale_of true = Large

pub scale_back : (s : Scale) → scale_of (is_large s) ≡ s
scale_back Profile = refl
scale_back Large = refl

abbrev scale_code : Coded Scale
scale_code = code_by Bool coded_bool is_large scale_of scale_back

abbrev params_code : Coded ParamsState
params_code =
    code_by (ℕ × (ℕ × (ℕ × (ℕ × (ℕ × (ℕ × (ℕ × (Refill × Scale))))))))
    (coded× coded_ℕ (coded× coded_ℕ (coded× coded_ℕ (coded× coded_ℕ (coded× coded_ℕ (coded× coded_ℕ
    (coded× coded_ℕ (coded× rule_code scale_code))))))))
    (λ l. (l.active, (l.passive, (l.arwl, (l.prwl, (l.ka, (l.kp, (l.shuffle_ttl, (l.refill, l.scale)))))))))
    (λ p. record {
      active = p.0;
      passive = p.1.0;
      arwl = p.1.1.0;
      prwl = p.1.1.1.0;
      ka = p.1.1.1.1.0;
      kp = p.1.1.1.1.1.0;
      shuffle_ttl = p.1.1.1.1.1.1.0;
      refill = p.1.1.1.1.1.1.1.0;
      scale = p.1.1.1.1.1.1.1.1;
    })
    (λ _. refl)

abbrev views_code : Coded ViewsState
views_code =
    code_by (ℕ × (ParamsState × (List ℕ × List ℕ)))
    (coded× coded_ℕ (coded× params_code (coded× (coded_list coded_ℕ) (coded_list coded_ℕ))))
    (λ v. (v.me, (v.params, (v.active, v.passive))))
    (λ p. record { me = p.0; params = p.1.0; active = p.1.1.0; passive = p.1.1.1 })
    (λ _. refl)

abbrev attempt_code : Coded AttemptState
attempt_code =
    code_by (Option ℕ × List ℕ) (coded× (coded_option coded_ℕ) (coded_list coded_ℕ))
    (λ a. (a.asked, a.tried)) (λ p. record { asked = p.0; tried = p.1 }) (λ _. refl)

abbrev hyparview_code : Coded HyParViewState
hyparview_code =
    code_by (ViewsState × (AttemptState × List ℕ)) (coded× views_code (coded× attempt_code (coded_list coded_ℕ)))
    (λ n. (n.views, (n.attempt, n.sent))) (λ p. record { views = p.0; attempt = p.1.0; sent = p.1.1 }) (λ _. refl)

-- The code of a node, made of those of its parts.
abbrev pub peer_code : Coded PeerState
peer_code =
    code_by (HyParViewState × PlumState) (coded× hyparview_code plum_code)
    (λ p. (p.hyparview, p.tree)) (λ parts. record { hyparview = parts.0; tree = parts.1 }) (λ _. refl)
