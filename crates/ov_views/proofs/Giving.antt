-- The walk through the list of the last shuffle, and what becomes of an id that is taken in.
use Rattle.std.proofs.Common.{◌≡◌, ℕ, true, false, ◌||◌, List, [], ◌∷◌, ◌++◌, refl, sym, ap, ◌∙◌}
use Rattle.std.proofs.Common.{subst, inl, inr, append_assoc, append-nil}
use Rattle.std.proofs.lemmas.Bool.{both_ways, or_right}
use Rattle.std.proofs.lemmas.Option.{slice_get_within, get_or_from_slice_get}
use Rattle.std.specs.Prelude.{Some, slice_get, unwrap_or}
use Rattle.ov_ids.specs.Members.{Has, IsApart}
use Rattle.ov_ids.specs.Sets.{has, IsIn, adding, without}
use Rattle.ov_ids.proofs.Cases.{where_true, where_false}
use Rattle.ov_ids.proofs.Members.{has_tested, has_append_cases}
use Rattle.ov_ids.proofs.Sets.{IsIn-get_or}
use Rattle.ov_words.specs.Pick.{Choice, AreDrawn, Drawn}
use Rattle.ov_views.specs.ViewsState.{ViewsState, has_passive_place, is_close, is_known}
use Rattle.ov_views.specs.Sampling.{GivesUp, TakesIn}

-- who is not found is no member
pub no_member : (set : List ℕ) (x : ℕ) → has set x ≡ false → ¬ Has set x
no_member set x e = λ m. both_ways _ e ((has_tested set x (has set x) refl).1 m)

-- an id that was passed over is no member
apart_more : (passive passed : List ℕ) (x : ℕ) → IsApart passive passed → ¬ Has passive x →
    IsApart passive (passed ++ x ∷ [])
apart_more passive passed x apart out z h =
    elim (has_append_cases passed (x ∷ []) z h) [
      | inl k ↦ apart z k
      | inr k ↦ elim k [
        | inl same ↦ λ m. out (subst (Has passive) (sym same) m)
        | inr none ↦ absurd none
      ]
    ]

-- one id more is passed over
pub passed_more : (passive sent left rest : List ℕ) (x : ℕ) →
    ((passed : List ℕ) × IsApart passive passed × (sent ≡ passed ++ left)) → left ≡ x ∷ rest → ¬ Has passive x →
    (passed : List ℕ) × IsApart passive passed × (sent ≡ passed ++ rest)
passed_more passive sent left rest x s e out =
    (s.0 ++ x ∷ [], apart_more passive s.0 x s.1 out, rw append_assoc (s.2 ∙ ap (λ l. s.0 ++ l) e))

-- all ids were passed over
pub none_left : (passive sent left : List ℕ) → ((passed : List ℕ) × IsApart passive passed × (sent ≡ passed ++ left)) →
    left ≡ [] → IsApart passive sent
none_left passive sent left s e =
    let all : sent ≡ s.0 = s.2 ∙ ap (λ l. s.0 ++ l) e ∙ append-nil s.0 in
    subst (IsApart passive) (sym all) s.1

-- the id at a place is a member
pub member_there : (set : List ℕ) (i d : ℕ) → slice_get set i ≡ Some d → IsIn set d
member_there set i d at =
    subst (IsIn set) (get_or_from_slice_get set i d 0 at) (IsIn-get_or set i 0 (slice_get_within set i d at))

-- the first passive member in `sent` is given up
pub next_given : (passive sent left rest : List ℕ) (x i d : ℕ) →
    ((passed : List ℕ) × IsApart passive passed × (sent ≡ passed ++ left)) → left ≡ x ∷ rest →
    slice_get passive i ≡ Some x → slice_get passive i ≡ Some d → GivesUp passive sent d rest []
next_given passive sent left rest x i d s e found at =
    let same : x ≡ d = ap (λ o. unwrap_or o 0) (sym found ∙ at) in
    let split : sent ≡ s.0 ++ d ∷ rest = s.2 ∙ ap (λ l. s.0 ++ l) (e ∙ ap (λ z. z ∷ rest) same) in
    inl ((s.0, s.1, member_there passive i d at, split), refl)

-- a random member is given up
pub random_given : (passive sent left : List ℕ) (i d : ℕ) (before after : List ℕ) →
    ((passed : List ℕ) × IsApart passive passed × (sent ≡ passed ++ left)) → left ≡ [] → slice_get passive i ≡ Some d →
    AreDrawn (record { from = passive; member = d } ∷ []) before after →
    Drawn before after (λ cs. GivesUp passive sent d left cs)
random_given passive sent left i d before after s none at drawn =
    let one : Choice = record { from = passive; member = d } in
    (one ∷ [], drawn, inr (none_left passive sent left s none, (member_there passive i d at, refl), none))

-- an id that is neither close nor passive is not known
pub unknown : (v : ViewsState) (x : ℕ) → is_close v x ≡ false → has v.passive x ≡ false → is_known v x ≡ false
unknown v x far out = λ i. far i || out i

-- an id that is passive already changes nothing
pub taken_passive : (v : ViewsState) (x : ℕ) (sent : List ℕ) → Has v.passive x → TakesIn v x sent [] v sent
taken_passive v x sent h =
    let known : is_known v x ≡ true =
    or_right (is_close v x) (has v.passive x) ((has_tested v.passive x (has v.passive x) refl).1 h) in
    where_true (is_known v x) _ _ known ((refl, refl), refl)

-- an id that is not known is taken in where there is room
pub taken_with_room : (v : ViewsState) (x : ℕ) (sent : List ℕ) → is_known v x ≡ false → has_passive_place v ≡ true →
    TakesIn v x sent [] (record v { passive = adding x v.passive }) sent
taken_with_room v x sent new room =
    where_false (is_known v x) _ _ new (where_true (has_passive_place v) _ _ room ((refl, refl), refl))

-- an id that is not known is taken in for a member
pub taken_for : (v : ViewsState) (x : ℕ) (sent : List ℕ) (d : ℕ) (left : List ℕ) (cs : List Choice) →
    is_known v x ≡ false → has_passive_place v ≡ false → GivesUp v.passive sent d left cs →
    TakesIn v x sent cs (record v { passive = adding x (without d v.passive) }) left
taken_for v x sent d left cs new full gives =
    where_false (is_known v x) _ _ new (where_false (has_passive_place v) _ _ full (d, gives, refl))
