-- The expected pairs: the computed list is the list of unlinked pairs among the first k members, and it is the only
-- one.
use Rattle.std.proofs.Common.{◌≡◌, ◌∙◌, ℕ, zero, suc, ◌+◌, ◌<◌, inl, inr, List, [], ◌∷◌, ◌++◌, length, take, drop}
use Rattle.std.proofs.Common.{get_or, slice_get, Some, None, true, false, cond, refl, sym, ap, subst, arith}
use Rattle.std.proofs.Common.{append_assoc, append-nil}
use Rattle.std.proofs.lemmas.Bool.{both_ways}
use Rattle.std.proofs.lemmas.List.{take_more, at_drop_more}
use Rattle.ov_ids.specs.Members.{Has, Ordered, Ascends}
use Rattle.ov_ids.proofs.Members.{has_append_left, has_append_right, has_append_cases, has_from_take, all_member}
use Rattle.ov_ids.proofs.Members.{all_from_members, same_ordered}
use Rattle.ov_graph.specs.Links.{LinkGraph, Linked}
use Rattle.ov_graph.specs.Code.Tests.{are_joined}
use Rattle.ov_graph.proofs.EvenTest.Tested.{joined_tested}
use Rattle.ov_cert.specs.declared.cert.PairPaths.{PairPaths}
use Rattle.ov_cert.specs.Valid.{AreUnlinkedPairs, PairPrecedes}
use Rattle.ov_cert.specs.Code.Tests.{unlinked_before, pairs_after, expected_pairs, pairs_fault, first}
use Rattle.ov_cert.proofs.EntryOrder.Finding.{found_append, pairs_found}

-- two ordered lists put together are ordered, if each item of the first precedes each item of the second
pub ordered_append : {X : Type 0} (R : X → X → Type 0) (xs ys : List X) → Ordered R xs → Ordered R ys
    → ((x y : X) → Has xs x → Has ys y → R x y) → Ordered R (xs ++ ys)
ordered_append R [] ys f g across = g
ordered_append R (x ∷ xs) ys f g across = (
  all_from_members (R x) (xs ++ ys) (λ y h. elim (has_append_cases xs ys y h)
      [ inl k ↦ all_member (R x) xs y f.0 k | inr k ↦ across x y (inl refl) k ]),
  ordered_append R xs ys f.1 g (λ y z h k. across y z (inr h) k),
)

pub ordered_across : {X : Type 0} (R : X → X → Type 0) (xs ys : List X) (x y : X) → Ordered R (xs ++ ys) → Has xs x
    → Has ys y → R x y
ordered_across R [] ys x y up h k = absurd h
ordered_across R (z ∷ xs) ys x y up h k = elim h [
  | inl e ↦ subst (λ w. R w y) e (all_member (R z) (xs ++ ys) y up.0 (has_append_right xs ys y k))
  | inr m ↦ ordered_across R xs ys x y up.1 m k
]

pub ordered_left : {X : Type 0} (R : X → X → Type 0) (xs ys : List X) → Ordered R (xs ++ ys) → Ordered R xs
ordered_left R [] ys up = tt
ordered_left R (x ∷ xs) ys up = (
  all_from_members (R x) xs (λ y h. all_member (R x) (xs ++ ys) y up.0 (has_append_left xs ys y h)),
  ordered_left R xs ys up.1,
)

pub ordered_right : {X : Type 0} (R : X → X → Type 0) (xs ys : List X) → Ordered R (xs ++ ys) → Ordered R ys
ordered_right R [] ys up = up
ordered_right R (x ∷ xs) ys up = ordered_right R xs ys up.1

pub ascends_take : (k : ℕ) (xs : List ℕ) → Ascends xs → Ascends (take k xs)
ascends_take zero xs up = tt
ascends_take (suc k) [] up = tt
ascends_take (suc k) (x ∷ xs) up = (
  all_from_members (λ y. x < y) (take k xs) (λ y h. all_member (λ z. x < z) xs y up.0 (has_from_take xs k y h)),
  ascends_take k xs up.1,
)

-- i is one of the earlier nodes, j is the given node, and they are not linked
abbrev pub IsUnlinkedBefore : LinkGraph → List ℕ → ℕ → ℕ × ℕ → Type 0
IsUnlinkedBefore g earlier j p = Has earlier p.0 × (p.1 ≡ j) × ¬ Linked g p.0 p.1

before_sound : (g : LinkGraph) (earlier : List ℕ) (j : ℕ) (p : ℕ × ℕ) → Has (unlinked_before g earlier j) p
    → IsUnlinkedBefore g earlier j p
before_sound g [] j p h = absurd h
before_sound g (i ∷ earlier) j p h =
    elim (are_joined g.links i j) as (λ b. are_joined g.links i j ≡ b
    → Has (cond b (unlinked_before g earlier j) ((i, j) ∷ unlinked_before g earlier j)) p
    → IsUnlinkedBefore g (i ∷ earlier) j p) [
      | true ↦ λ t k. let r = before_sound g earlier j p k in (inr r.0, r.1, r.2)
      | false ↦ λ t k. elim k [
        | inl e ↦ subst (IsUnlinkedBefore g (i ∷ earlier) j) e (
          inl refl,
          refl,
          λ l. both_ways (are_joined g.links i j) t
              ((joined_tested g i j (are_joined g.links i j) refl).1 l),
        )
        | inr m ↦ let r = before_sound g earlier j p m in (inr r.0, r.1, r.2)
      ]
    ] refl h

before_complete : (g : LinkGraph) (earlier : List ℕ) (i j : ℕ) → Has earlier i → ¬ Linked g i j
    → Has (unlinked_before g earlier j) (i, j)
before_complete g [] i j h n = absurd h
before_complete g (x ∷ earlier) i j h n =
    elim (are_joined g.links x j) as (λ b. are_joined g.links x j ≡ b
    → Has (cond b (unlinked_before g earlier j) ((x, j) ∷ unlinked_before g earlier j)) (i, j)) [
      | true ↦ λ t. elim h [
        | inl e ↦ absurd (n (subst (λ (z : ℕ). Linked g z j) e ((joined_tested g x j true (sym t)).0 refl)))
        | inr m ↦ before_complete g earlier i j m n
      ]
      | false ↦ λ t. elim h [
        | inl e ↦ inl (ap (λ (z : ℕ). (z, j)) e)
        | inr m ↦ inr (before_complete g earlier i j m n)
      ]
    ] refl

before_ordered : (g : LinkGraph) (earlier : List ℕ) (j : ℕ) → Ascends earlier
    → Ordered PairPrecedes (unlinked_before g earlier j)
before_ordered g [] j up = tt
before_ordered g (i ∷ earlier) j up =
    let rest = before_ordered g earlier j up.1 in
    let below = all_from_members (PairPrecedes (i, j)) (unlinked_before g earlier j)
    (λ p h. let r = before_sound g earlier j p h in inr (sym r.1, all_member (λ z. i < z) earlier p.0 up.0 r.0)) in
    elim (are_joined g.links i j) as (λ b. Ordered PairPrecedes
    (cond b (unlinked_before g earlier j) ((i, j) ∷ unlinked_before g earlier j)))
    [ true ↦ rest | false ↦ (below, rest) ]

pub unlinked_before_append : (g : LinkGraph) (xs ys : List ℕ) (j : ℕ)
    → unlinked_before g (xs ++ ys) j ≡ unlinked_before g xs j ++ unlinked_before g ys j
unlinked_before_append g [] ys j = refl
unlinked_before_append g (x ∷ xs) ys j =
    let e = unlinked_before_append g xs ys j in
    elim (are_joined g.links x j) as (λ b. cond b (unlinked_before g (xs ++ ys) j)
    ((x, j) ∷ unlinked_before g (xs ++ ys) j) ≡ cond b (unlinked_before g xs j) ((x, j) ∷ unlinked_before g xs j) ++
    unlinked_before g ys j) [
      | true ↦ e
      | false ↦ ap (λ ps. (x, j) ∷ ps) e
    ]

-- the pairs of j ∷ rest are the pairs of j, followed by the pairs of rest
pub pairs_after_next : (g : LinkGraph) (earlier : List ℕ) (j : ℕ) (rest : List ℕ)
    → pairs_after g earlier (j ∷ rest) ≡ unlinked_before g earlier j ++ pairs_after g (earlier ++ j ∷ []) rest
pairs_after_next g earlier j rest = refl

pub expected_append : (g : LinkGraph) (earlier xs ys : List ℕ)
    → pairs_after g earlier (xs ++ ys) ≡ pairs_after g earlier xs ++ pairs_after g (earlier ++ xs) ys
expected_append g earlier [] ys = ap (λ l. pairs_after g l ys) (sym (append-nil earlier))
expected_append g earlier (j ∷ xs) ys =
    ap (λ l. unlinked_before g earlier j ++ l) (expected_append g (earlier ++ j ∷ []) xs ys
    ∙ ap (λ l. pairs_after g (earlier ++ j ∷ []) xs ++ pairs_after g l ys) (append_assoc earlier (j ∷ []) xs))
    ∙ sym (append_assoc (unlinked_before g earlier j) (pairs_after g (earlier ++ j ∷ []) xs)
    (pairs_after g (earlier ++ j ∷ xs) ys))

-- the same, with the node given by its place in the list
pub pairs_after_at : (g : LinkGraph) (xs : List ℕ) (i d : ℕ) → i < length xs
    → pairs_after g (take i xs) (drop i xs) ≡ unlinked_before g (take i xs) (get_or xs i d) ++ pairs_after g
    (take (i + 1) xs) (drop (i + 1) xs)
pairs_after_at g xs i d l =
    at_drop_more (pairs_after g (take i xs)) xs i d l
    ∙ ap (λ before. unlinked_before g (take i xs) (get_or xs i d) ++ pairs_after g before (drop (i + 1) xs))
    (sym (take_more xs i d l))

first_of_front : {X : Type 0} (xs ys : List X) (x : X) → slice_get xs 0 ≡ Some x → slice_get (xs ++ ys) 0 ≡ Some x
first_of_front [] ys x e = absurd cc
first_of_front (y ∷ xs) ys x e = e

first_of_back : {X : Type 0} (xs ys : List X) → slice_get xs 0 ≡ None → slice_get (xs ++ ys) 0 ≡ slice_get ys 0
first_of_back [] ys e = refl
first_of_back (y ∷ xs) ys e = absurd cc

-- the first unlinked pair is one of the member j at place p, or else one of the later members
module _ (g : LinkGraph) (xs : List ℕ) (p j : ℕ) where
  abbrev later_pairs : List (ℕ × ℕ)
  later_pairs = pairs_after g (take (p + 1) xs) (drop (p + 1) xs)

  parted : p < length xs → j ≡ get_or xs p j → pairs_after g (take p xs) (drop p xs) ≡ unlinked_before g (take p xs) j
      ++ later_pairs
  parted l at = pairs_after_at g xs p j l ∙ ap (λ (x : ℕ). unlinked_before g (take p xs) x ++ later_pairs) (sym at)

  pub first_in_column : (pair : ℕ × ℕ) → p < length xs → j ≡ get_or xs p j
      → slice_get (unlinked_before g (take p xs) j) 0 ≡ Some pair
      → slice_get (pairs_after g (take p xs) (drop p xs)) 0 ≡ Some pair
  first_in_column pair l at e = ap (λ (ps : List (ℕ × ℕ)). slice_get ps 0) (parted l at)
      ∙ first_of_front (unlinked_before g (take p xs) j) later_pairs pair e

  pub first_after_column : p < length xs → j ≡ get_or xs p j → slice_get (unlinked_before g (take p xs) j) 0 ≡ None
      → slice_get later_pairs 0 ≡ slice_get (pairs_after g (take p xs) (drop p xs)) 0
  first_after_column l at e = sym (ap (λ (ps : List (ℕ × ℕ)). slice_get ps 0) (parted l at)
      ∙ first_of_back (unlinked_before g (take p xs) j) later_pairs e)

-- the same ascending list, with j counted as the last of the earlier nodes
moved : (earlier : List ℕ) (j : ℕ) (rest : List ℕ) → Ascends (earlier ++ j ∷ rest)
    → Ascends ((earlier ++ j ∷ []) ++ rest)
moved earlier j rest up = subst Ascends (sym (append_assoc earlier (j ∷ []) rest)) up

pub after_sound : (g : LinkGraph) (earlier rest : List ℕ) (p : ℕ × ℕ) → Ascends (earlier ++ rest)
    → Has (pairs_after g earlier rest) p → Has (earlier ++ rest) p.0 × Has rest p.1 × (p.0 < p.1) × ¬ Linked g p.0 p.1
after_sound g earlier [] p up h = absurd h
after_sound g earlier (j ∷ rest) p up h = elim (has_append_cases (unlinked_before g earlier j)
    (pairs_after g (earlier ++ j ∷ []) rest) p h) [
      | inl k ↦
          let r = before_sound g earlier j p k in
          let l : p.0 < j = ordered_across (λ x y. x < y) earlier (j ∷ rest) p.0 j up r.0 (inl refl) in
          (has_append_left earlier (j ∷ rest) p.0 r.0, inl (sym r.1), subst (λ (z : ℕ). p.0 < z) (sym r.1) l, r.2)
      | inr k ↦
          let r = after_sound g (earlier ++ j ∷ []) rest p (moved earlier j rest up) k in
          (subst (λ (l : List ℕ). Has l p.0) (append_assoc earlier (j ∷ []) rest) r.0, inr r.1, r.2, r.3)
    ]

pub after_complete :
    (g : LinkGraph) (earlier rest : List ℕ) (i j : ℕ) → Ascends (earlier ++ rest) → Has (earlier ++ rest) i
    → Has rest j → i < j → ¬ Linked g i j → Has (pairs_after g earlier rest) (i, j)
after_complete g earlier [] i j up h k l n = absurd k
after_complete g earlier (x ∷ rest) i j up h k l n = elim k [
  | inl e ↦ has_append_left (unlinked_before g earlier x) (pairs_after g (earlier ++ x ∷ []) rest) (i, j)
      (elim (has_append_cases earlier (x ∷ rest) i h) [
        | inl m ↦ subst (λ (z : ℕ). Has (unlinked_before g earlier z) (i, j)) (sym e)
            (before_complete g earlier i j m n)
        | inr m ↦ absurd (elim m [
          | inl f ↦ omega (arith, e, f, l)
          | inr q ↦ let o : x < i = ordered_across (λ y z. y < z) (x ∷ []) rest x i
              (ordered_right (λ y z. y < z) earlier (x ∷ rest) up) (inl refl) q in omega (arith, e, o, l)
        ])
      ])
  | inr m ↦ has_append_right (unlinked_before g earlier x) (pairs_after g (earlier ++ x ∷ []) rest) (i, j)
      (after_complete g (earlier ++ x ∷ []) rest i j (moved earlier x rest up)
      (subst (λ (s : List ℕ). Has s i) (sym (append_assoc earlier (x ∷ []) rest)) h) m l n)
]

after_ordered : (g : LinkGraph) (earlier rest : List ℕ) → Ascends (earlier ++ rest)
    → Ordered PairPrecedes (pairs_after g earlier rest)
after_ordered g earlier [] up = tt
after_ordered g earlier (j ∷ rest) up =
    let up' = moved earlier j rest up in
    ordered_append PairPrecedes (unlinked_before g earlier j) (pairs_after g (earlier ++ j ∷ []) rest)
    (before_ordered g earlier j (ordered_left (λ x y. x < y) earlier (j ∷ rest) up))
    (after_ordered g (earlier ++ j ∷ []) rest up')
    (λ p q h k.
    let r = before_sound g earlier j p h in
    let s = after_sound g (earlier ++ j ∷ []) rest q up' k in
    let l : j < q.1 = ordered_across (λ x y. x < y) (earlier ++ j ∷ []) rest j q.1 up'
    (has_append_right earlier (j ∷ []) j (inl refl)) s.1 in
    inl (subst (λ (z : ℕ). z < q.1) (sym r.1) l))

pub expected : (g : LinkGraph) (q : List ℕ) (k : ℕ) → Ascends q → AreUnlinkedPairs g q k (expected_pairs g q k)
expected g q k ascends =
    let up = ascends_take k q ascends in record {
      order = after_ordered g [] (take k q) up;
      each = λ p. (
        (λ h. let r = after_sound g [] (take k q) p up h in (r.0, r.1, r.2, r.3)),
        (λ u. after_complete g [] (take k q) p.0 p.1 up u.0 u.1 u.2 u.3),
      );
    }

precedes_once : (p q : ℕ × ℕ) → PairPrecedes p q → PairPrecedes q p → ⊥
precedes_once p q a b = elim a [
  | inl l ↦ elim b [ inl m ↦ omega (arith, l, m) | inr m ↦ let e = m.0 in omega (arith, l, e) ]
  | inr l ↦ let e = l.0 in let f = l.1 in elim b [
    | inl m ↦ omega (arith, e, m)
    | inr m ↦ let o = m.1 in omega
        (arith, f, o)
  ]
]

pub unlinked_pairs_one : (g : LinkGraph) (q : List ℕ) (k : ℕ) (ps qs : List (ℕ × ℕ)) → AreUnlinkedPairs g q k ps
    → AreUnlinkedPairs g q k qs → ps ≡ qs
unlinked_pairs_one g q k ps qs a b =
    same_ordered PairPrecedes precedes_once ps qs a.order b.order (λ p h. (b.each p).1 ((a.each p).0 h))
    (λ p h. (a.each p).1 ((b.each p).0 h))

pub pairs_fault_append : (g : LinkGraph) (k : ℕ) (entries : List PairPaths) (place : ℕ) (xs ys : List (ℕ × ℕ))
    → pairs_fault g k entries place (xs ++ ys) ≡ first (pairs_fault g k entries place xs)
    (pairs_fault g k entries (place + length xs) ys)
pairs_fault_append g k entries = found_append _ _ (pairs_fault g k entries) (pairs_found g k entries)
