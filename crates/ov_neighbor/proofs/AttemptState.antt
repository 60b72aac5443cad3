-- An attempt that goes on.
use Rattle.std.proofs.Common.{◌≡◌, ℕ, false, eqb, List, [], ◌∷◌, length, refl, sym, subst, inl, inr}
use Rattle.std.proofs.lemmas.Bool.{both_ways, eqb-true, or_cases}
use Rattle.std.proofs.lemmas.Option.{none-some, same_Some}
use Rattle.std.specs.Prelude.{Some}
use Rattle.ov_ids.proofs.Cases.{where_false}
use Rattle.ov_ids.proofs.Sets.{IsSet-adding, IsIn-self, IsIn-without}
use Rattle.ov_ids.specs.Sets.{IsSet, IsIn, has, adding, without, without_all}
use Rattle.ov_wire.specs.declared.message.Body.TheVariants.{Neighbor}
use Rattle.ov_views.specs.ViewsState.{ViewsState}
use Rattle.ov_views.specs.Sending.{say}
use Rattle.ov_views.specs.NeighborRows.{GoesOnAsking, IsAttempt, gives_up, untried}

-- the next one is asked
pub asks : (v : ViewsState) (tried : List ℕ) (q : ℕ) → gives_up v tried ≡ false → IsIn (untried v tried) q →
    GoesOnAsking v tried (record { from = untried v tried; member = q } ∷ [])
    (record { asked = Some q; tried = adding q tried })
    ((q, say v.me (Neighbor (eqb (length v.active) 0))) ∷ [])
asks v tried q on h = where_false _ _ _ on (q, (h, refl), refl, refl)

-- who is left was there
left_was_there : (tried xs : List ℕ) (q : ℕ) → IsIn (without_all tried xs) q → IsIn xs q
left_was_there [] xs q h = h
left_was_there (t ∷ tried) xs q h = (IsIn-without t xs q (left_was_there tried (without t xs) q h)).1

-- who is left was not tried
pub left_untried : (tried xs : List ℕ) (q : ℕ) → IsIn (without_all tried xs) q → ¬ IsIn tried q
left_untried [] xs q h k = both_ways false refl k
left_untried (t ∷ tried) xs q h k =
    elim (or_cases (eqb t q) (has tried q) k) [
      | inl e ↦ (IsIn-without t xs q (left_was_there tried (without t xs) q h)).0 (sym (eqb-true t q e))
      | inr m ↦ left_untried tried (without t xs) q h m
    ]

-- an attempt that asked the next one is as an attempt should be
pub asked_attempt : (tried : List ℕ) (q : ℕ) → IsSet tried →
    IsAttempt (record { asked = Some q; tried = adding q tried })
asked_attempt tried q s = record {
  set = IsSet-adding q tried s;
  among = λ p e. subst (IsIn (adding q tried)) (same_Some q p e) (IsIn-self q tried);
  none = λ e. absurd (none-some q (sym e));
}
