-- What the handlers of joins send, and the step that passes FORWARDJOIN on.
use Rattle.std.proofs.Common.{◌≡◌, ℕ, ◌+◌, ◌-◌, ◌≤◌, ◌||◌, ◌&&◌, not, false, true, eqb, List, [], ◌∷◌}
use Rattle.std.proofs.Common.{◌++◌, length, refl, sym}
use Rattle.std.proofs.Common.{subst, arith}
use Rattle.std.proofs.lemmas.Bool.{both_ways, ne_eqb}
use Rattle.std.specs.Prelude.{MatchBool, if◌then◌else◌}
use Rattle.std.specs.List.{list_any}
use Rattle.ov_ids.proofs.Cases.{where_false, either_way}
use Rattle.ov_ids.specs.Sets.{IsIn, has, adding, without}
use Rattle.ov_ids.proofs.Sets.{IsIn-self, length-without_less}
use Rattle.ov_views.specs.Changes.{Keeps, MakesRoom, AddsActive}
use Rattle.ov_views.proofs.Keeping.{KeepsActive, same_keeps, AddsPassive-keeps}
use Rattle.ov_wire.proofs.Ranges.{Ranged}
use Rattle.ov_wire.specs.declared.Body.TheVariants.{ForwardJoin}
use Rattle.ov_words.specs.Pick.{Choice}
use Rattle.ov_views.specs.ViewsState.{ViewsState, AreViews, has_place, is_close}
use Rattle.ov_views.specs.Sending.{say, farewells}
use Rattle.ov_views.specs.JoinRows.{Remembers, AllowedForwardJoin, walk_ends, walk_targets, forwards}
use Rattle.ov_views.specs.declared.change.ViewChange.{ViewChange}
use Rattle.ov_views.specs.declared.change.ViewChange.TheVariants.{Up, Down}

pub goes_on : (v : ViewsState) (s n ttl : ℕ) (first : List Choice) (target : ℕ) (w : ViewsState) →
    eqb s v.me ≡ false → eqb n v.me ≡ false → walk_ends v s n ttl ≡ false →
    Remembers v n ttl first w → IsIn (walk_targets v s n) target →
    AllowedForwardJoin v s n ttl (first ++ record { from = walk_targets v s n; member = target } ∷ []) w []
    ((target, say v.me (ForwardJoin n (ttl - 1))) ∷ [])
goes_on v s n ttl first target w s_other n_other on maybe h =
    let others : (eqb s v.me || eqb n v.me) ≡ false = rw (s_other, n_other) refl in
    where_false _ _ _ others
    (where_false _ _ _ on (
      first,
      record { from = walk_targets v s n; member = target } ∷ [],
      target,
      refl,
      maybe,
      (h, refl),
      refl,
      refl,
    ))

-- there is nobody to go on to if no active member is another
pub targets_tested : (s n : ℕ) (active : List ℕ) →
    not (list_any (λ member. not (eqb member s) && not (eqb member n)) active)
    ≡ eqb (length (without n (without s active))) 0
targets_tested s n [] = refl
targets_tested s n (x ∷ active) =
    elim (eqb x s) as (λ b. not ((not b && not (eqb x n)) || list_any (λ m. not (eqb m s) && not (eqb m n)) active)
    ≡ eqb (length (without n (if (not b) then x ∷ without s active else without s active))) 0) [
      | true ↦ targets_tested s n active
      | false ↦ elim (eqb x n) as
          (λ b. not (not b || list_any (λ m. not (eqb m s) && not (eqb m n)) active)
          ≡ eqb (length (if (not b) then x ∷ without n (without s active) else without n (without s active))) 0) [
            | true ↦ targets_tested s n active
            | false ↦ sym (ne_eqb (length (x ∷ without n (without s active))) 0 (omega arith))
          ]
    ]

-- whether n is remembered or not, the node and its active view stay
pub remembers_keeps : (v : ViewsState) (n ttl : ℕ) (choices : List Choice) (w : ViewsState) →
    Remembers v n ttl choices w → KeepsActive v n w
remembers_keeps v n ttl choices w =
    either_way (eqb ttl v.params.prwl) _ _ _ (AddsPassive-keeps v n choices w) (λ k. same_keeps v w n k.1)

pub Ranged-forwards : (me node ttl : ℕ) (members : List ℕ) → ttl ≤ 15 → Ranged (forwards me node ttl members)
Ranged-forwards me node ttl [] low = tt
Ranged-forwards me node ttl (target ∷ members) low = (low, Ranged-forwards me node ttl members low)

pub Ranged-farewells : (me : ℕ) (changes : List ViewChange) → Ranged (farewells me changes)
Ranged-farewells me [] = tt
Ranged-farewells me (Up x ∷ changes) = Ranged-farewells me changes
Ranged-farewells me (Down x ∷ changes) = (tt, Ranged-farewells me changes)

-- a node that is added to the active view, and is not the node itself, is active then
becomes_active : (v : ViewsState) (s : ℕ) (cs : List Choice) (w : ViewsState) (changes : List ViewChange) →
    eqb s v.me ≡ false → AddsActive v s cs w changes → IsIn w.active s
becomes_active v s cs w changes other h =
    let P : ViewsState → Type 0 = λ u. IsIn u.active s in
    let Close : Type 0 = Keeps v cs w × (changes ≡ []) in
    let Far : Type 0 =
    (u : ViewsState) × (drops : List ViewChange) × MakesRoom (record v { passive = without s v.passive }) cs u drops
    × (w ≡ record u { active = adding s u.active }) × (changes ≡ drops ++ Up s ∷ []) in
    elim (eqb s v.me) as (λ b. eqb s v.me ≡ b → MatchBool (b || has v.active s) Close Far → IsIn w.active s) [
      | true ↦ λ e _. absurd (both_ways _ other e)
      | false ↦ λ _ k. elim (has v.active s) as (λ b. has v.active s ≡ b → MatchBool b Close Far → IsIn w.active s) [
        | true ↦ λ e j. subst P (sym j.0.1) e
        | false ↦ λ _ j. subst P (sym j.3) (IsIn-self s j.0.active)
      ] refl k
    ] refl h

-- where a place is made free for x, at most one node is sent DISCONNECT
one_goes : (me x : ℕ) (v : ViewsState) (cs : List Choice) (w : ViewsState) (drops : List ViewChange) →
    MakesRoom v cs w drops → length (farewells me (drops ++ Up x ∷ [])) ≤ 1
one_goes me x v cs w drops =
    either_way (has_place v) _ _ _ (λ k. rw k.1 (omega arith))
    (either_way (eqb (length v.active) 0) _ _ _ (λ k. rw k.1 (omega arith)) (λ k. rw k.4 (omega arith)))

-- so it is where s is added to the active view
one_farewell : (me : ℕ) (v : ViewsState) (s : ℕ) (cs : List Choice) (w : ViewsState) (changes : List ViewChange) →
    AddsActive v s cs w changes → length (farewells me changes) ≤ 1
one_farewell me v s cs w changes =
    either_way (is_close v s) _ _ _ (λ k. rw k.1 (omega arith))
    (λ k. rw k.4 (one_goes me s (record v { passive = without s v.passive }) cs k.0 k.1 k.2))

-- DISCONNECT, JOINED and FORWARDJOIN to all others are at most 17 messages
pub join_fits : (me : ℕ) (v : ViewsState) (s : ℕ) (cs : List Choice) (w : ViewsState) (changes : List ViewChange) →
    eqb s v.me ≡ false → AddsActive v s cs w changes →
    AreViews w → length (farewells me changes) + 1 + length (without s w.active) ≤ 17
join_fits me v s cs w changes other h a =
    omega (
      arith,
      one_farewell me v s cs w changes h,
      length-without_less s w.active
          (becomes_active v s cs w changes other h),
      a.active_size,
      a.limits.active_high,
    )
