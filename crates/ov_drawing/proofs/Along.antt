-- A path goes along a link: the test and the relation.
use Rattle.std.proofs.Common.{◌≡◌, ◌⊎◌, inl, inr, ℕ, suc, ◌<◌, Bool, true, false, ◌&&◌, List, [], ◌∷◌, ◌++◌}
use Rattle.std.proofs.Common.{Option, Some, None, if◌then◌else◌}
use Rattle.std.proofs.Common.{refl, sym, ap, subst, ◌∙◌, arith, ltb, eqb, eqb-true, eq-eqb, lt-ltb, le-ltb}
use Rattle.std.proofs.lemmas.Bool.{or_cases, or_left, or_right}
use Rattle.std.specs.Option.{option_map}
use Rattle.ov_drawing.specs.Code.PathTests.{is_step, goes_along, path_from}
use Rattle.ov_drawing.specs.Drawn.{GoesAlong, IsPathOn}

both : (x y : Bool) → (x && y) ≡ true → (x ≡ true) × (y ≡ true)
both true y h = (refl, h)
both false y h = absurd (cc h)

-- a step along the link is between its ends
step_ends : (t : Bool) (l : ℕ × ℕ) (a b : ℕ) → (if t then eqb a l.0 && eqb b l.1 else eqb b l.0 && eqb a l.1) ≡ true
    → ((a ≡ l.0) × (b ≡ l.1)) ⊎ ((a ≡ l.1) × (b ≡ l.0))
step_ends true l a b h = let r = both _ _ h in inl (eqb-true a l.0 r.0, eqb-true b l.1 r.1)
step_ends false l a b h = let r = both _ _ h in inr (eqb-true a l.1 r.1, eqb-true b l.0 r.0)

-- the steps between the ends of a link are along it
up : (l : ℕ × ℕ) → l.0 < l.1 → is_step l l.0 l.1 ≡ true
up l h =
    ap (λ t. if t then eqb l.0 l.0 && eqb l.1 l.1 else eqb l.1 l.0 && eqb l.0 l.1) (lt-ltb l.0 l.1 h)
    ∙ (let e = eq-eqb l.0 l.0 refl in let f = eq-eqb l.1 l.1 refl in λ i. e i && f i)

down : (l : ℕ × ℕ) → l.0 < l.1 → is_step l l.1 l.0 ≡ true
down l h =
    ap (λ t. if t then eqb l.1 l.0 && eqb l.0 l.1 else eqb l.0 l.0 && eqb l.1 l.1) (le-ltb l.1 l.0 (omega arith))
    ∙ (let e = eq-eqb l.0 l.0 refl in let f = eq-eqb l.1 l.1 refl in λ i. e i && f i)

-- one node more in front
more : (x : ℕ) (ys : List ℕ) (l : ℕ × ℕ) → goes_along ys l ≡ true → goes_along (x ∷ ys) l ≡ true
more x [] l h = absurd (cc h)
more x (y ∷ ys) l h = or_right (is_step l x y) (goes_along (y ∷ ys) l) h

pub along_found : (p : List ℕ) (l : ℕ × ℕ) → l.0 < l.1 → GoesAlong p l → goes_along p l ≡ true
along_found p l lt (front, back, ends) = elim ends [
  | inl e ↦ ap (λ q. goes_along q l) e ∙ upward front
  | inr e ↦ ap (λ q. goes_along q l) e ∙ downward front
]
  where
    upward : (f : List ℕ) → goes_along (f ++ l.0 ∷ l.1 ∷ back) l ≡ true
    upward [] = or_left (is_step l l.0 l.1) (goes_along (l.1 ∷ back) l) (up l lt)
    upward (x ∷ f) = more x (f ++ l.0 ∷ l.1 ∷ back) l (upward f)

    downward : (f : List ℕ) → goes_along (f ++ l.1 ∷ l.0 ∷ back) l ≡ true
    downward [] = or_left (is_step l l.1 l.0) (goes_along (l.0 ∷ back) l) (down l lt)
    downward (x ∷ f) = more x (f ++ l.1 ∷ l.0 ∷ back) l (downward f)

pub along_told : (p : List ℕ) (l : ℕ × ℕ) → goes_along p l ≡ true → GoesAlong p l
along_told [] l h = absurd (cc h)
along_told (a ∷ []) l h = absurd (cc h)
along_told (a ∷ b ∷ rest) l h = elim (or_cases (is_step l a b) (goes_along (b ∷ rest) l) h) [
  | inl e ↦ elim (step_ends (ltb a b) l a b e) [
    | inl s ↦ ([], rest, inl (λ i. s.0 i ∷ s.1 i ∷ rest))
    | inr s ↦ ([], rest, inr (λ i. s.0 i ∷ s.1 i ∷ rest))
  ]
  | inr e ↦ let r = along_told (b ∷ rest) l e in (
    a ∷ r.0,
    r.1,
    elim r.2 [
      | inl s ↦ inl (ap (λ q. a ∷ q) s)
      | inr s ↦ inr (ap (λ q. a ∷ q) s)
    ],
  )
]

-- the places of later paths, counted one further
counted_on : (at : ℕ) (ps : List (List ℕ)) (l : ℕ × ℕ) → path_from (suc at) ps l ≡ option_map suc (path_from at ps l)
counted_on at [] l = refl
counted_on at (p ∷ ps) l = go (goes_along p l) (counted_on (suc at) ps l)
  where
    go : (t : Bool) → path_from (suc (suc at)) ps l ≡ option_map suc (path_from (suc at) ps l)
        → (if t then Some (suc at) else path_from (suc (suc at)) ps l)
        ≡ option_map suc (if t then Some at else path_from (suc at) ps l)
    go true e = refl
    go false e = e

-- a path in front that does not go along the link
next_path : (p : List ℕ) (ps : List (List ℕ)) (l : ℕ × ℕ) (o : Option ℕ) → ¬ GoesAlong p l → IsPathOn ps l o
    → IsPathOn (p ∷ ps) l (option_map suc o)
next_path p ps l None off h =
    λ q m. elim m [ inl e ↦ subst (λ r. ¬ GoesAlong r l) e off | inr k ↦ h q k ]
next_path p ps l (Some at) off h = (
  h.0,
  h.1,
  h.2,
  λ q m. elim m [
    | inl e ↦ subst (λ r. ¬ GoesAlong r l) e off
    | inr k ↦ h.3 q k
  ],
)

-- the path that the tests find is the first that goes along the link
pub path_told : (ps : List (List ℕ)) (l : ℕ × ℕ) → l.0 < l.1 → IsPathOn ps l (path_from 0 ps l)
path_told [] l lt = λ q m. absurd m
path_told (p ∷ ps) l lt = go (path_told ps l lt) (goes_along p l) refl
  where
    go : IsPathOn ps l (path_from 0 ps l) → (t : Bool) → goes_along p l ≡ t
        → IsPathOn (p ∷ ps) l (if t then Some 0 else path_from 1 ps l)
    go rest true e = (p, refl, along_told p l e, λ q m. absurd m)
    go rest false e = subst (IsPathOn (p ∷ ps) l) (sym (counted_on 0 ps l))
        (next_path p ps l (path_from 0 ps l) (λ g. absurd (cc (sym e ∙ along_found p l lt g))) rest)
