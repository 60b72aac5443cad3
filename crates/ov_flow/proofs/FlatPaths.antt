-- Paths, read from a flat list.
use Rattle.std.proofs.Common.{◌≡◌, ◌∙◌, ℕ, ◌+◌, ◌-◌, ◌<◌, ◌≤◌, ◌==◌, inl, inr, List, [], ◌∷◌, ◌++◌, map, length, get_or}
use Rattle.std.proofs.Common.{take, drop, reverse, cond, Bool, true, false, Some, None, refl, sym, ap, subst, arith}
use Rattle.std.proofs.Common.{append_assoc, eq-eqb, ne_eqb, suc}
use Rattle.std.proofs.lemmas.Bool.{cases_eq}
use Rattle.std.proofs.lemmas.Grind.{common_steps}
use Rattle.std.proofs.lemmas.List.{reverse-append, reverse-reverse, take_more, drop_more, drop_all, take-append-drop}
use Rattle.std.proofs.lemmas.List.Quantifiers.{position-Some}
use Rattle.std.proofs.lemmas.List.Sums.{fails_before_first}
use Rattle.std.specs.List.{position, position_or_len}
use Rattle.ov_ids.specs.Members.{Has}
use Rattle.ov_ids.proofs.Members.{place_of, place_in_take, has_append_cases}
use Rattle.ov_flow.specs.Flow.{places_on}
use Rattle.ov_flow.specs.Code.Flat.{paths_after, paths_in}
use Rattle.ov_flow.proofs.Writing.{read_one}

-- the number of paths does not depend on what was read of the first
pub count_ahead : (s : ℕ) (ahead flat : List ℕ) → length (paths_after s ahead flat) ≡ length (paths_after s [] flat)
unfolding paths_after
count_ahead s ahead [] = refl
count_ahead s ahead (p ∷ flat) =
    elim (p == s) as
    (λ b. length (cond b ((s ∷ ahead) ∷ paths_after s [] flat) (paths_after s (p ∷ ahead) flat))
    ≡ length (cond b ((s ∷ []) ∷ paths_after s [] flat) (paths_after s (p ∷ []) flat))) [
      | true ↦ refl
      | false ↦ count_ahead s (p ∷ ahead) flat ∙ sym (count_ahead s (p ∷ []) flat)
    ]

-- one more place is counted
pub count_source : (s : ℕ) (flat : List ℕ) (i d : ℕ) → i < length flat → get_or flat i d ≡ s
    → length (paths_after s [] (drop i flat)) ≡ length (paths_after s [] (drop (i + 1) flat)) + 1
unfolding paths_after
count_source s flat i d l e =
    ap (λ (xs : List ℕ). length (paths_after s [] xs)) (drop_more flat i d l)
    ∙ ap (λ (b : Bool). length (cond b ((s ∷ []) ∷ paths_after s [] (drop (i + 1) flat))
    (paths_after s (get_or flat i d ∷ []) (drop (i + 1) flat)))) (eq-eqb (get_or flat i d) s e)
    ∙ omega arith

pub count_other : (s : ℕ) (flat : List ℕ) (i d : ℕ) → i < length flat → ¬ (get_or flat i d ≡ s)
    → length (paths_after s [] (drop i flat)) ≡ length (paths_after s [] (drop (i + 1) flat))
unfolding paths_after
count_other s flat i d l ne =
    ap (λ (xs : List ℕ). length (paths_after s [] xs)) (drop_more flat i d l)
    ∙ ap (λ (b : Bool). length (cond b ((s ∷ []) ∷ paths_after s [] (drop (i + 1) flat))
    (paths_after s (get_or flat i d ∷ []) (drop (i + 1) flat)))) (ne_eqb (get_or flat i d) s ne)
    ∙ count_ahead s (get_or flat i d ∷ []) (drop (i + 1) flat)

pub has_reverse : (xs : List ℕ) (x : ℕ) → Has (reverse xs) x → Has xs x
has_reverse [] x h = h
has_reverse (y ∷ xs) x h =
    elim (has_append_cases (reverse xs) (y ∷ []) x (subst (λ (l : List ℕ). Has l x) (reverse-append (y ∷ []) xs) h)) [
      | inl k ↦ inr (has_reverse xs x k)
      | inr k ↦ elim k [ inl e ↦ inl e | inr w ↦ absurd w ]
    ]

-- a path that is written backwards at the front is the first
read_first : (s : ℕ) (xs more : List ℕ) → ¬ Has xs s
    → paths_after s [] ((xs ++ s ∷ []) ++ more) ≡ reverse (xs ++ s ∷ []) ∷ paths_after s [] more
read_first s xs more off =
    let back : reverse (s ∷ reverse xs) ≡ xs ++ s ∷ [] =
    reverse-append (s ∷ []) (reverse xs) ∙ ap (λ (l : List ℕ). l ++ s ∷ []) (reverse-reverse xs) in
    ap (λ (l : List ℕ). paths_after s [] (l ++ more)) (sym back)
    ∙ read_one s (reverse xs) more (λ h. off (has_reverse xs s h))
    ∙ ap (λ (l : List ℕ). l ∷ paths_after s [] more) (sym (reverse-append xs (s ∷ [])))

-- the first place of the source ends the first path
pub path_split : (s : ℕ) (flat : List ℕ) (i : ℕ) → position (λ p. p == s) flat ≡ Some i
    → paths_after s [] flat ≡ reverse (take (i + 1) flat) ∷ paths_after s [] (drop (i + 1) flat)
path_split s flat i e =
    let q = position-Some (λ p. p == s) flat i 0 e in
    let at : get_or flat i 0 ≡ s = elim (cases_eq (get_or flat i 0) s) [
      | inl same ↦ same
      | inr ne ↦ let f = ne_eqb (get_or flat i 0) s ne in let t = q.1 in absurd (cc (t, f))
    ] in
    let off : ¬ Has (take i flat) s = λ h.
    let k = place_in_take flat i s h in
    let f = q.2 k.0 k.1 in
    let t = eq-eqb (get_or flat k.0 0) s k.3 in
    absurd (cc (t, f)) in
    let is : take (i + 1) flat ≡ take i flat ++ s ∷ [] =
    take_more flat i 0 q.0 ∙ ap (λ (x : ℕ). take i flat ++ x ∷ []) at in
    ap (paths_after s []) (sym (take-append-drop (i + 1) flat))
    ∙ ap (λ (l : List ℕ). paths_after s [] (l ++ drop (i + 1) flat)) is
    ∙ read_first s (take i flat) (drop (i + 1) flat) off
    ∙ ap (λ (l : List ℕ). reverse l ∷ paths_after s [] (drop (i + 1) flat)) (sym is)

no_source : (s : ℕ) (ahead flat : List ℕ) → ¬ Has flat s → paths_after s ahead flat ≡ []
unfolding paths_after
no_source s ahead [] off = refl
no_source s ahead (p ∷ flat) off =
    ap (λ (b : Bool). cond b ((s ∷ ahead) ∷ paths_after s [] flat) (paths_after s (p ∷ ahead) flat))
    (ne_eqb p s (λ e. off (inl e)))
    ∙ no_source s (p ∷ ahead) flat (λ h. off (inr h))

-- where the source stands nowhere, there is no path
pub no_path : (s : ℕ) (flat : List ℕ) → position (λ p. p == s) flat ≡ None → paths_after s [] flat ≡ []
no_path s flat e =
    let ge : length flat ≤ position_or_len (λ p. p == s) flat = grind (arith, common_steps) in
    no_source s [] flat (λ h.
    let k = place_of flat s h in
    let l = k.1 in
    let f = fails_before_first (λ p. p == s) flat k.0 0 (omega (arith, l, ge)) in
    let t = eq-eqb (get_or flat k.0 0) s k.2 in
    absurd (cc (t, f)))

-- the paths of a list are those after its source
pub in_flat : (flat : List ℕ) (s : ℕ) → s ≡ get_or flat (length flat - 1) 0 → paths_after s [] flat ≡ paths_in flat
unfolding paths_in
in_flat flat s e = ap (λ (t : ℕ). paths_after t [] flat) e

-- one more node is written
pub one_more : (f : ℕ → ℕ) (ids new path left before : List ℕ) (x y : ℕ)
    → ids ++ map f (reverse left) ≡ map f (reverse path) → left ≡ before ++ x ∷ [] → new ≡ ids ++ y ∷ [] → y ≡ f x
    → new ++ map f (reverse before) ≡ map f (reverse path)
one_more f ids new path left before x y so is to at =
    ap (λ (l : List ℕ). l ++ map f (reverse before)) to
    ∙ append_assoc ids (y ∷ []) (map f (reverse before))
    ∙ ap (λ (z : ℕ). ids ++ z ∷ map f (reverse before)) at
    ∙ ap (λ (l : List ℕ). ids ++ map f l) (sym (ap reverse is ∙ reverse-append before (x ∷ [])))
    ∙ so

-- one more path is written
pub path_more : (f : List ℕ → List ℕ) (done new all left later : List (List ℕ)) (path ids : List ℕ)
    → done ++ map f left ≡ all → left ≡ path ∷ later → new ≡ done ++ ids ∷ [] → ids ≡ f path → new ++ map f later ≡ all
path_more f done new all left later path ids so is to at =
    ap (λ (l : List (List ℕ)). l ++ map f later) to
    ∙ append_assoc done (ids ∷ []) (map f later)
    ∙ ap (λ (l : List ℕ). done ++ l ∷ map f later) at
    ∙ ap (λ (l : List (List ℕ)). done ++ map f l) (sym is)
    ∙ so

pub has_reversed : (xs : List ℕ) (x : ℕ) → Has xs x → Has (reverse xs) x
has_reversed xs x h = has_reverse (reverse xs) x (subst (λ (l : List ℕ). Has l x) (sym (reverse-reverse xs)) h)

-- nothing is left to count
pub all_counted : (s : ℕ) (flat : List ℕ) (i : ℕ) → length flat ≤ i → length (paths_after s [] (drop i flat)) ≡ 0
unfolding paths_after
all_counted s flat i l = ap (λ (xs : List ℕ). length (paths_after s [] xs)) (drop_all i flat l)

-- where the source is last, each place is on a path
places_after : (s : ℕ) (ahead flat : List ℕ) (p : ℕ) → get_or (p ∷ flat) (length flat) 0 ≡ s
    → places_on (paths_after s ahead (p ∷ flat)) ≡ length ahead + suc (length flat)
unfolding paths_after
places_after s ahead [] p e =
    ap (λ (b : Bool). places_on (cond b ((s ∷ ahead) ∷ []) [])) (eq-eqb p s e) ∙ omega arith
places_after s ahead (q ∷ flat) p e = elim (cases_eq p s) [
  | inl same ↦
      let rest = places_after s [] flat q e in
      ap (λ (b : Bool). places_on (cond b ((s ∷ ahead) ∷ paths_after s [] (q ∷ flat))
      (paths_after s (p ∷ ahead) (q ∷ flat)))) (eq-eqb p s same)
      ∙ omega (arith, rest)
  | inr ne ↦
      let rest = places_after s (p ∷ ahead) flat q e in
      ap (λ (b : Bool). places_on (cond b ((s ∷ ahead) ∷ paths_after s [] (q ∷ flat))
      (paths_after s (p ∷ ahead) (q ∷ flat)))) (ne_eqb p s ne)
      ∙ omega (arith, rest)
]

-- a flat list has the places of its paths, and no others
pub places_in : (flat : List ℕ) → length flat ≡ places_on (paths_in flat)
unfolding paths_in paths_after
places_in [] = refl
places_in (p ∷ flat) =
    let all = places_after (get_or (p ∷ flat) (suc (length flat) - 1) 0) [] flat p
    (ap (λ (i : ℕ). get_or (p ∷ flat) i 0) (omega arith)) in
    omega (arith, all)
