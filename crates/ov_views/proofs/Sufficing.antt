-- The random words that suffice for an operation suffice for its parts, and for each pick there is one.
use Rattle.std.proofs.Common.{◌≡◌, ◌≢◌, ℕ, ◌≤◌, ◌<◌, ◌+◌, Bool, true, false, List, [], ◌∷◌, ◌++◌, length, refl}
use Rattle.std.proofs.Common.{ap, inl, inr, arith, get_or}
use Rattle.std.specs.Prelude.{MatchBool}
use Rattle.std.proofs.lemmas.Bool.{ltb-false}
use Rattle.std.proofs.lemmas.List.{length-append}
use Rattle.ov_ids.specs.Members.{IsApart}
use Rattle.ov_ids.specs.Sets.{has, IsIn, adding, without}
use Rattle.ov_ids.proofs.Cases.{either_way}
use Rattle.ov_ids.proofs.Sets.{IsIn-get_or}
use Rattle.ov_words.specs.Pick.{Choice, Suffice, Drawn}
use Rattle.ov_words.proofs.PickLemmas.{length-AreDrawn}
use Rattle.ov_views.specs.ViewsState.{ViewsState, has_place, has_passive_place, is_close, is_known}
use Rattle.ov_views.specs.Changes.{Keeps, Chosen, AddsPassive, DropsRandom, AddsActive}
use Rattle.ov_views.specs.Sampling.{GivesUp, TakesIn, Integrates}
use Rattle.ov_views.specs.declared.change.ViewChange.{ViewChange}
use Rattle.ov_views.specs.declared.change.ViewChange.TheVariants.{Up, Down}
use Rattle.ov_views.proofs.Giving.{no_member, passed_more, none_left}
use Rattle.ov_views.proofs.Keeping.{drops, enters}

few_given : (passive sent : List ℕ) (d : ℕ) (left : List ℕ) (cs : List Choice) →
    GivesUp passive sent d left cs → length cs ≤ 1
few_given passive sent d left cs h =
    elim h [ inl a ↦ omega (arith, ap length a.1) | inr b ↦ omega (arith, ap length b.1.1) ]

few_taken : (v : ViewsState) (x : ℕ) (sent : List ℕ) (cs : List Choice) (w : ViewsState) (left : List ℕ) →
    TakesIn v x sent cs w left → length cs ≤ 1
few_taken v x sent cs w left =
    either_way (is_known v x) _ _ _ (λ k. omega (arith, ap length k.0.0))
    (either_way (has_passive_place v) _ _ _ (λ k. omega (arith, ap length k.0.0))
    (λ g. few_given v.passive sent g.0 left cs g.1))

few_integrated : (v : ViewsState) (ids sent : List ℕ) (cs : List Choice) (w : ViewsState) →
    Integrates v ids sent cs w → length cs ≤ length ids
few_integrated v [] sent cs w h = omega (arith, ap length h.0)
few_integrated v (x ∷ ids) sent cs w h =
    omega (
      arith,
      ap length h.6,
      length-append h.2 h.3,
      few_taken v x sent h.2 h.0 h.1 h.4,
      few_integrated h.0 ids h.1 h.3 w h.5,
    )

-- a word for each id suffices for taking in a list
pub words_integrate : (v : ViewsState) (ids sent words : List ℕ) → length ids ≤ length words →
    Suffice words (λ cs. (w : ViewsState) × Integrates v ids sent cs w)
words_integrate v ids sent words enough = λ cs h. omega (arith, enough, few_integrated v ids sent cs h.0 h.1)

-- a set that is not empty has a member
some_member : (set : List ℕ) → 0 < length set → (d : ℕ) × IsIn set d
some_member set some = (get_or set 0 0, IsIn-get_or set 0 0 some)

some_passive : (v : ViewsState) → 1 ≤ v.params.passive → has_passive_place v ≡ false → 0 < length v.passive
some_passive v low full = omega (arith, low, ltb-false (length v.passive) v.params.passive full)

-- a node can be added to the passive view, in some way
can_add : (v : ViewsState) (x : ℕ) → 1 ≤ v.params.passive →
    (cs : List Choice) × (w : ViewsState) × AddsPassive v x cs w
can_add v x low = by (is_known v x) (has_passive_place v) refl
  where
    by : (b c : Bool) → has_passive_place v ≡ c →
        (cs : List Choice) × (w : ViewsState)
        × MatchBool b (Keeps v cs w)
        (MatchBool c (Keeps (record v { passive = adding x v.passive }) cs w)
        ((d : ℕ) × Chosen v.passive d cs []
        × (w ≡ record v { passive = adding x (without d v.passive) })))
    by true c e = ([], v, (refl, refl))
    by false true e = ([], record v { passive = adding x v.passive }, (refl, refl))
    by false false e =
        let m = some_member v.passive (some_passive v low e) in (
          record { from = v.passive; member = m.0 } ∷ [],
          record v { passive = adding x (without m.0 v.passive) },
          (m.0, (m.1, refl), refl),
        )

-- a passive member can be given up, in some way
can_give : (passive sent left : List ℕ) → ((passed : List ℕ) × IsApart passive passed × (sent ≡ passed ++ left)) →
    0 < length passive → (cs : List Choice) × (d : ℕ) × (rest : List ℕ) × GivesUp passive sent d rest cs
can_give passive sent [] s some =
    let m = some_member passive some in
    (record { from = passive; member = m.0 } ∷ [], m.0, [], inr (none_left passive sent [] s refl, (m.1, refl), refl))
can_give passive sent (y ∷ left) s some = by (has passive y) refl
    (λ out. let passed = passed_more passive sent (y ∷ left) left y s refl (no_member passive y out) in
    can_give passive sent left passed some)
  where
    by : (b : Bool) → has passive y ≡ b →
        (has passive y ≡ false → (cs : List Choice) × (d : ℕ) × (rest : List ℕ) × GivesUp passive sent d rest cs) →
        (cs : List Choice) × (d : ℕ) × (rest : List ℕ) × GivesUp passive sent d rest cs
    by true e later = ([], y, left, inl ((s.0, s.1, e, s.2), refl))
    by false e later = later e

-- an id of a shuffle can be taken in, in some way
can_take : (v : ViewsState) (x : ℕ) (sent : List ℕ) → 1 ≤ v.params.passive →
    (cs : List Choice) × (w : ViewsState) × (left : List ℕ) × TakesIn v x sent cs w left × (w.params ≡ v.params)
can_take v x sent low = by (is_known v x) (has_passive_place v) refl
  where
    by : (b c : Bool) → has_passive_place v ≡ c →
        (cs : List Choice) × (w : ViewsState) × (left : List ℕ)
        × MatchBool b (Keeps v cs w × (left ≡ sent))
        (MatchBool c (Keeps (record v { passive = adding x v.passive }) cs w × (left ≡ sent))
        ((d : ℕ) × GivesUp v.passive sent d left cs
        × (w ≡ record v { passive = adding x (without d v.passive) })))
        × (w.params ≡ v.params)
    by true c e = ([], v, sent, ((refl, refl), refl), refl)
    by false true e = ([], record v { passive = adding x v.passive }, sent, ((refl, refl), refl), refl)
    by false false e =
        let g = can_give v.passive sent sent ([], (λ z h. absurd h), refl) (some_passive v low e) in
        (g.0, record v { passive = adding x (without g.1 v.passive) }, g.2, (g.1, g.3, refl), refl)

-- a list can be taken in, in some way
can_integrate : (v : ViewsState) (ids sent : List ℕ) → 1 ≤ v.params.passive →
    (cs : List Choice) × (w : ViewsState) × Integrates v ids sent cs w
can_integrate v [] sent low = ([], v, (refl, refl))
can_integrate v (x ∷ ids) sent low =
    let first = can_take v x sent low in
    let same : first.1.params.passive ≡ v.params.passive = ap (λ p. p.passive) first.4 in
    let later = can_integrate first.1 ids first.2 (omega (arith, same, low)) in
    (first.0 ++ later.0, later.1, (first.1, first.2, first.0, later.0, first.3, later.2, refl))

-- the parameters stay
pub taken_params : (v : ViewsState) (x : ℕ) (sent : List ℕ) (cs : List Choice) (w : ViewsState) (left : List ℕ) →
    TakesIn v x sent cs w left → w.params ≡ v.params
taken_params v x sent cs w left =
    either_way (is_known v x) _ _ _ (λ k. ap (λ (u : ViewsState). u.params) k.0.1)
    (either_way (has_passive_place v) _ _ _ (λ k. ap (λ (u : ViewsState). u.params) k.0.1)
    (λ g. ap (λ (u : ViewsState). u.params) g.2))

-- if words suffice for dropping a random member, there is one for the pick, unless nobody is active
pub pick_drops : (v : ViewsState) (words : List ℕ) → 1 ≤ v.params.passive →
    Suffice words (λ cs. (w : ViewsState) × (changes : List ViewChange) × DropsRandom v cs w changes) →
    v.active ≢ [] → 0 < length words
pick_drops v words low enough some = by v.active refl
  where
    by : (set : List ℕ) → v.active ≡ set → 0 < length words
    by [] e = absurd (some e)
    by (y ∷ set) e =
        let m = some_member v.active (omega (arith, ap length e)) in
        let later = can_add (record v { active = without m.0 v.active }) m.0 low in
        let one : Choice = record { from = v.active; member = m.0 } in
        let all : length (one ∷ later.0) ≤ length words =
        enough (one ∷ later.0) (later.1, Down m.0 ∷ [], drops v m.0 later.0 later.1 m.1 later.2) in
        omega (arith, all)

-- and after the pick there are those for adding the dropped one to the passive view
pub added_after : (v : ViewsState) (d : ℕ) (words left : List ℕ) → IsIn v.active d → length left + 1 ≡ length words →
    Suffice words (λ cs. (w : ViewsState) × (changes : List ViewChange) × DropsRandom v cs w changes) →
    Suffice left (λ cs. (w : ViewsState) × AddsPassive (record v { active = without d v.active }) d cs w)
added_after v d words left member used enough = λ cs h.
    let one : Choice = record { from = v.active; member = d } in
    let all : length (one ∷ cs) ≤ length words =
    enough (one ∷ cs) (h.0, Down d ∷ [], drops v d cs h.0 member h.1) in
    omega (arith, all, used)

-- if words suffice for adding a node to a full active view, they do for dropping a member
pub drops_first : (v : ViewsState) (x : ℕ) (words : List ℕ) → is_close v x ≡ false → has_place v ≡ false →
    Suffice words (λ cs. (w : ViewsState) × (changes : List ViewChange) × AddsActive v x cs w changes) →
    Suffice words (λ cs. (w : ViewsState) × (changes : List ViewChange)
    × DropsRandom (record v { passive = without x v.passive }) cs w changes)
drops_first v x words far full enough = λ cs h.
    enough cs (record h.0 { active = adding x h.0.active }, h.1 ++ Up x ∷ [], enters v x cs h.0 h.1 far (rw full h.2))

-- if words suffice for taking an id in, they do for giving a member up for it
pub given_up : (v : ViewsState) (x : ℕ) (sent words : List ℕ) → is_known v x ≡ false → has_passive_place v ≡ false →
    Suffice words (λ cs. (w : ViewsState) × (left : List ℕ) × TakesIn v x sent cs w left) →
    Suffice words (λ cs. (d : ℕ) × (left : List ℕ) × GivesUp v.passive sent d left cs)
given_up v x sent words unknown full enough = λ cs h.
    enough cs (
      record v { passive = adding x (without h.0 v.passive) },
      h.1,
      rw (unknown, full) (h.0, h.2, refl),
    )

-- and if no member was sent, there is a word for the pick
pub pick_gives : (passive sent words : List ℕ) → IsApart passive sent →
    Suffice words (λ cs. (d : ℕ) × (left : List ℕ) × GivesUp passive sent d left cs) →
    0 < length passive → 0 < length words
pick_gives passive sent words apart enough some =
    let m = some_member passive some in
    let one : Choice = record { from = passive; member = m.0 } in
    let all : length (one ∷ []) ≤ length words = enough (one ∷ []) (m.0, [], inr (apart, (m.1, refl), refl)) in
    omega (arith, all)

-- if words suffice for a list, they do for its first id
pub first_taken : (v : ViewsState) (x : ℕ) (ids sent words : List ℕ) → 1 ≤ v.params.passive →
    Suffice words (λ cs. (w : ViewsState) × Integrates v (x ∷ ids) sent cs w) →
    Suffice words (λ cs. (w : ViewsState) × (left : List ℕ) × TakesIn v x sent cs w left)
first_taken v x ids sent words low enough = λ cs h.
    let same : h.0.params.passive ≡ v.params.passive = ap (λ p. p.passive) (taken_params v x sent cs h.0 h.1 h.2) in
    let later = can_integrate h.0 ids h.1 (omega (arith, same, low)) in
    let all : length (cs ++ later.0) ≤ length words =
    enough (cs ++ later.0) (later.1, (h.0, h.1, cs, later.0, h.2, later.2, refl)) in
    omega (arith, all, length-append cs later.0)

-- and after it, for the rest of the list
pub rest_taken : (v : ViewsState) (x : ℕ) (ids sent words : List ℕ) (u : ViewsState) (left later : List ℕ) →
    Suffice words (λ cs. (w : ViewsState) × Integrates v (x ∷ ids) sent cs w) →
    Drawn words later (λ cs. TakesIn v x sent cs u left) →
    Suffice later (λ cs. (w : ViewsState) × Integrates u ids left cs w)
rest_taken v x ids sent words u left later enough taken = λ cs h.
    let all : length (taken.0 ++ cs) ≤ length words =
    enough (taken.0 ++ cs) (h.0, (u, left, taken.0, cs, taken.2, h.1, refl)) in
    omega (arith, all, length-append taken.0 cs, length-AreDrawn taken.0 words later taken.1)
