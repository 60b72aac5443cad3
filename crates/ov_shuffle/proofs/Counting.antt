-- How many random words are used for a list of ids that is integrated after a sample: each sampled member saves one.
use Rattle.std.proofs.Common.{◌≡◌, ℕ, suc, ◌≤◌, ◌+◌, ◌⊎◌, inl, inr, List, [], ◌∷◌, ◌++◌, length, refl, sym}
use Rattle.std.proofs.Common.{ap, ◌∙◌, subst, arith}
use Rattle.std.proofs.lemmas.List.{length-append}
use Rattle.ov_ids.specs.Members.{Has, IsApart}
use Rattle.ov_ids.specs.Sets.{has, IsIn, adding, without}
use Rattle.ov_ids.proofs.Cases.{either_way}
use Rattle.ov_ids.proofs.Members.{has_tested}
use Rattle.ov_ids.proofs.Sets.{IsIn-added, IsIn-kept, IsIn-without}
use Rattle.ov_words.specs.Pick.{Choice, AreDrawn}
use Rattle.ov_words.proofs.PickLemmas.{length-AreDrawn}
use Rattle.ov_views.specs.ViewsState.{ViewsState, is_known, has_passive_place}
use Rattle.ov_views.specs.Changes.{Chosen}
use Rattle.ov_views.specs.Sampling.{AreChosen, Samples, GivesUp, TakesIn, Integrates}

-- these are members of the set, none twice
abbrev AreMembers : List ℕ → List ℕ → Type 0
AreMembers set [] = Unit {0}
AreMembers set (x ∷ ids) = IsIn set x × (¬ Has ids x) × AreMembers set ids

-- the chosen ones are members of the set
chosen_members : (ids set : List ℕ) (choices : List Choice) → AreChosen set ids choices → (z : ℕ) → Has ids z →
    IsIn set z
chosen_members [] set choices chosen z h = absurd h
chosen_members (x ∷ ids) set choices chosen z h =
    elim h as (λ _. IsIn set z) [
      | inl e ↦ subst (IsIn set) e chosen.1.0
      | inr k ↦ (IsIn-without x set z (chosen_members ids (without x set) chosen.0 chosen.2 z k)).1
    ]

-- and none is chosen twice
are_members : (ids set : List ℕ) (choices : List Choice) → AreChosen set ids choices → AreMembers set ids
are_members [] set choices chosen = tt
are_members (x ∷ ids) set choices chosen = (
  chosen.1.0,
  (λ h. (IsIn-without x set x (chosen_members ids (without x set) chosen.0 chosen.2 x h)).0 refl),
  fewer x set ids (are_members ids (without x set) chosen.0 chosen.2),
)
  where
    fewer : (x : ℕ) (set ids : List ℕ) → AreMembers (without x set) ids → AreMembers set ids
    fewer x set [] a = tt
    fewer x set (y ∷ ids) a = ((IsIn-without x set y a.0).1, a.1, fewer x set ids a.2)

members_added : (x : ℕ) (set ids : List ℕ) → AreMembers set ids → AreMembers (adding x set) ids
members_added x set [] a = tt
members_added x set (y ∷ ids) a = (IsIn-added x set y a.0, a.1, members_added x set ids a.2)

members_kept : (x : ℕ) (set ids : List ℕ) → ¬ Has ids x → AreMembers set ids → AreMembers (without x set) ids
members_kept x set [] other a = tt
members_kept x set (y ∷ ids) other a =
    (IsIn-kept x set y (λ e. other (inl e)) a.0, a.1, members_kept x set ids (λ h. other (inr h)) a.2)

-- One id was taken in. What is left of `sent` is still passive. A random word was used only where `sent` was used up.
record Counted (passive sent left : List ℕ) (choices : List Choice) : Type 0 where
  pub members : AreMembers passive left
  pub words : (length choices ≡ 0) ⊎ ((length choices ≡ 1) × (length sent ≡ 0))
  pub used : length sent ≤ length left + 1

goes_next : (passive sent passed left : List ℕ) (d : ℕ) (choices : List Choice) → AreMembers passive sent →
    IsApart passive passed → sent ≡ passed ++ d ∷ left → choices ≡ [] → Counted (without d passive) sent left choices
goes_next passive sent [] left d choices a apart e none =
    let b : AreMembers passive (d ∷ left) = subst (AreMembers passive) e a in record {
      members = members_kept d passive left b.1 b.2;
      words = inl (ap length none);
      used = omega (arith, ap length e);
    }
goes_next passive sent (y ∷ passed) left d choices a apart e none =
    let b : AreMembers passive (y ∷ (passed ++ d ∷ left)) = subst (AreMembers passive) e a in
    absurd (apart y (inl refl) ((has_tested passive y (has passive y) refl).0 b.0))

is_picked : (passive sent left : List ℕ) (d : ℕ) (choices : List Choice) → AreMembers passive sent →
    IsApart passive sent → Chosen passive d choices [] → left ≡ [] → Counted (without d passive) sent left choices
is_picked passive [] left d choices a apart c none =
    record { members = rw none tt; words = inr (ap length c.1, refl); used = omega arith }
is_picked passive (y ∷ sent) left d choices a apart c none =
    absurd (apart y (inl refl) ((has_tested passive y (has passive y) refl).0 a.0))

given_up : (passive sent left : List ℕ) (d : ℕ) (choices : List Choice) → AreMembers passive sent →
    GivesUp passive sent d left choices → Counted (without d passive) sent left choices
given_up passive sent left d choices a g =
    elim g [
      | inl n ↦ goes_next passive sent n.0.0 left d choices a n.0.1 n.0.3 n.1
      | inr r ↦ is_picked passive sent left d choices a r.0 r.1 r.2
    ]

taken_in : (v : ViewsState) (x : ℕ) (sent : List ℕ) (choices : List Choice) (w : ViewsState) (left : List ℕ) →
    AreMembers v.passive sent → TakesIn v x sent choices w left → Counted w.passive sent left choices
taken_in v x sent choices w left a =
    let P : ViewsState → Type 0 = λ u. AreMembers u.passive left in
    let same : left ≡ sent → AreMembers v.passive left = λ e. subst (AreMembers v.passive) (sym e) a in
    either_way (is_known v x) _ _ _ (λ k. record {
      members = subst P (sym k.0.1) (same k.1);
      words = inl (ap length k.0.0);
      used = omega (arith, ap length k.1);
    })
    (either_way (has_passive_place v) _ _ _ (λ k. record {
      members = subst P (sym k.0.1) (members_added x v.passive left (same k.1));
      words = inl (ap length k.0.0);
      used = omega (arith, ap length k.1);
    })
    (λ f. let g = given_up v.passive sent left f.0 choices a f.1 in record {
      members = subst P (sym f.2) (members_added x (without f.0 v.passive) left g.members);
      words = g.words;
      used = g.used;
    }))

-- where `sent` lists passive members, the ids take no random word, or at most one each, less one for each of `sent`
integrated_words : (ids : List ℕ) (v : ViewsState) (sent : List ℕ) (choices : List Choice) (w : ViewsState) →
    AreMembers v.passive sent → Integrates v ids sent choices w →
    (length choices ≡ 0) ⊎ (length choices + length sent ≤ length ids)
integrated_words [] v sent choices w a h = inl (ap length h.0)
integrated_words (x ∷ ids) v sent choices w a h =
    let first = h.2 in
    let rest = h.3 in
    let c : Counted h.0.passive sent h.1 first = taken_in v x sent first h.0 h.1 a h.4 in
    let n : length choices ≡ length first + length rest = ap length h.6 ∙ length-append first rest in
    elim c.words as (λ _. (length choices ≡ 0) ⊎ (length choices + length sent ≤ suc (length ids))) [
      | inl none ↦ elim (integrated_words ids h.0 h.1 rest w c.members h.5) as
          (λ _. (length choices ≡ 0) ⊎ (length choices + length sent ≤ suc (length ids))) [
            | inl z ↦ inl (omega (arith, n, none, z))
            | inr l ↦ inr (omega (arith, n, none, l, c.used))
          ]
      | inr one ↦ elim (integrated_words ids h.0 h.1 rest w c.members h.5) as
          (λ _. (length choices ≡ 0) ⊎ (length choices + length sent ≤ suc (length ids))) [
            | inl z ↦ inr (let o = one.0 in let s = one.1 in omega (arith, n, o, s, z))
            | inr l ↦ inr (let o = one.0 in let s = one.1 in omega (arith, n, o, s, l))
          ]
    ]

-- a sample of as many members as the list is long, and then the list: at most one random word for each id
pub shuffled_words : (v : ViewsState) (ids those : List ℕ) (first last : List Choice) (w : ViewsState)
    (before between after : List ℕ) →
    Samples v.passive (length ids) first those → length before ≡ length between + length those →
    AreDrawn last between after → Integrates v ids those last w → length before ≤ length after + length ids
shuffled_words v ids those first last w before between after s sampled drawn h =
    let n : length between ≡ length last + length after = length-AreDrawn last between after drawn in
    let m = s.0 in
    elim (integrated_words ids v those last w (are_members those v.passive first s.1) h) as
    (λ _. length before ≤ length after + length ids) [
      | inl z ↦ omega (arith, n, z, sampled, m)
      | inr l ↦ omega (arith, n, l, sampled)
    ]
