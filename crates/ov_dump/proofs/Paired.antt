-- Pairs of nodes in the order of links.
use Rattle.std.proofs.Common.{◌≡◌, ◌∙◌, ◌↔◌, ◌+◌, ◌<◌, inl, inr, List, [], ◌∷◌, ◌++◌, ℕ, zero, suc, Bool, true, false}
use Rattle.std.proofs.Common.{sym, ap, ap₂, subst, refl, length, get_or, arith, nat_cmp, is_eq, is_lt, Ordering, Less}
use Rattle.std.proofs.Common.{Equal, Greater}
use Rattle.std.proofs.Common.{◌&&◌, nat_eq, slice_get, Some, unwrap_or}
use Rattle.std.proofs.lemmas.Bool.{both_ways}
use Rattle.std.proofs.lemmas.Cmp.{nat_cmp_total, by_ranked, on_total, ranked, then_total, nat_eq_equiv, on_equiv}
use Rattle.std.proofs.lemmas.Cmp.{and_equiv, tied_itself}
use Rattle.std.proofs.lemmas.List.Kept.{Contains-dedup, Contains-from_dedup, IsStrictlySortedBy-dedup}
use Rattle.std.proofs.lemmas.List.Sorted.{Contains-permutation, IsPermutation-sym, searchable_from_sorted}
use Rattle.std.proofs.lemmas.Map.Keys.{sorted_head, sorted_tail}
use Rattle.std.specs.Cmp.{IsEquivalence, IsTotalOrder, both_tied, nat_cmp_is, unsigned_ties}
use Rattle.std.specs.List.{HoldsAt, dedup}
use Rattle.std.specs.List.Sorted.{IsNonDecreasingBy, IsPartitionPoint, IsPermutation, IsSorted, IsStrictlySortedBy}
use Rattle.std.specs.Ordering.{eq_by_cmp, ordering_index, ordering_reverse, ordering_then}
use Rattle.ov_ids.specs.Members.{Has, Ordered}
use Rattle.ov_ids.proofs.Members.{all_from_members, all_member, has_append_cases, has_append_left, has_append_right}
use Rattle.ov_ids.proofs.Members.{ordered_at}
use Rattle.ov_graph.specs.Links.{Precedes}
use Rattle.ov_dump.proofs.Places.{cases_lt, contained, is_member, ordered_more, place_of, within}

-- how the code orders two pairs, and whether it takes them for one
abbrev pub pair_cmp : ℕ × ℕ → ℕ × ℕ → Ordering
pair_cmp l m = ordering_then (nat_cmp l.0 m.0) (nat_cmp l.1 m.1)

abbrev pub pair_eq : ℕ × ℕ → ℕ × ℕ → Bool
pair_eq l m = nat_eq l.0 m.0 && nat_eq l.1 m.1

pub pairs_total : IsTotalOrder pair_cmp
pairs_total = then_total (on_total (λ (l : ℕ × ℕ). l.0) nat_cmp_total) (on_total (λ (l : ℕ × ℕ). l.1) nat_cmp_total)

pub pairs_equiv : IsEquivalence pair_eq
pairs_equiv = and_equiv (on_equiv (λ (l : ℕ × ℕ). l.0) nat_eq_equiv) (on_equiv (λ (l : ℕ × ℕ). l.1) nat_eq_equiv)

pub pairs_tie : (l m : ℕ × ℕ) → pair_eq l m ≡ eq_by_cmp pair_cmp l m
pairs_tie l m =
    both_tied (nat_eq l.0 m.0) (nat_eq l.1 m.1) (nat_cmp l.0 m.0) (nat_cmp l.1 m.1) (unsigned_ties l.0 m.0)
    (unsigned_ties l.1 m.1)

-- what the order says of two pairs
pub precedes : (l m : ℕ × ℕ) → pair_cmp l m ≡ Less → Precedes l m
precedes l m e =
    by_ranked (l.0 < m.0) (l.0 ≡ m.0) (m.0 < l.0) (nat_cmp l.0 m.0) (ranked l.0 m.0 (nat_cmp l.0 m.0) refl)
    (λ o p. inl p)
    (λ o p. inr (p, below (sym (ap (λ x. ordering_then x (nat_cmp l.1 m.1)) o) ∙ e)))
    (λ o p. let f : Greater ≡ Less = sym (ap (λ x. ordering_then x (nat_cmp l.1 m.1)) o) ∙ e in absurd (cc))
  where
    below : {a b : ℕ} → nat_cmp a b ≡ Less → a < b
    below {a} {b} e =
        by_ranked (a < b) (a ≡ b) (b < a) (nat_cmp a b) (ranked a b (nat_cmp a b) refl)
        (λ o p. p)
        (λ o p. let f : Equal ≡ Less = sym o ∙ e in absurd (cc))
        (λ o p. let f : Greater ≡ Less = sym o ∙ e in absurd (cc))

pub comes_first : (l m : ℕ × ℕ) → Precedes l m → pair_cmp l m ≡ Less
comes_first l m p = elim p [
  | inl low ↦ ap (λ x. ordering_then x (nat_cmp l.1 m.1)) (sym (nat_cmp_is l.0 m.0 Less low))
  | inr r ↦ ap₂ (λ x y. ordering_then x y) (sym (nat_cmp_is l.0 m.0 Equal r.0)) (sym (nat_cmp_is l.1 m.1 Less r.1))
]

pub same_pair : (l m : ℕ × ℕ) → is_eq (pair_cmp l m) ≡ true → l ≡ m
same_pair l m e =
    by_ranked (l.0 < m.0) (l.0 ≡ m.0) (m.0 < l.0) (nat_cmp l.0 m.0) (ranked l.0 m.0 (nat_cmp l.0 m.0) refl)
    (λ o p. let f : false ≡ true = sym (ap (λ x. is_eq (ordering_then x (nat_cmp l.1 m.1))) o) ∙ e in absurd (cc))
    (λ o p. ap₂ (λ (x y : ℕ). (x, y)) p
    (level (sym (ap (λ x. is_eq (ordering_then x (nat_cmp l.1 m.1))) o) ∙ e)))
    (λ o p. let f : false ≡ true = sym (ap (λ x. is_eq (ordering_then x (nat_cmp l.1 m.1))) o) ∙ e in absurd (cc))
  where
    level : {a b : ℕ} → is_eq (nat_cmp a b) ≡ true → a ≡ b
    level {a} {b} e =
        by_ranked (a < b) (a ≡ b) (b < a) (nat_cmp a b) (ranked a b (nat_cmp a b) refl)
        (λ o p. let f : false ≡ true = sym (ap is_eq o) ∙ e in absurd (cc))
        (λ o p. p)
        (λ o p. let f : false ≡ true = sym (ap is_eq o) ∙ e in absurd (cc))

-- ---- pairs in order, each once

pub ordered_pairs : (ls : List (ℕ × ℕ)) → IsStrictlySortedBy pair_cmp ls → Ordered Precedes ls
ordered_pairs [] up = tt
ordered_pairs (l ∷ ls) up = (
  all_from_members (Precedes l) ls
      (λ m h. precedes l m (all_member (λ m. pair_cmp l m ≡ Less) ls m (sorted_head pair_cmp l ls up) h)),
  ordered_pairs ls (sorted_tail pair_cmp l ls up),
)

-- sorting moves pairs, and each that is there more than once is then left once
pub left_once : (old sorted new : List (ℕ × ℕ)) → IsPermutation old sorted → new ≡ dedup pair_eq sorted
    → (l : ℕ × ℕ) → Has new l ↔ Has old l
left_once old sorted new moved is l = (
  (λ h. is_member old l (Contains-permutation sorted old l (IsPermutation-sym old sorted moved)
      (Contains-from_dedup pair_eq sorted l (contained (dedup pair_eq sorted) l (subst (λ ls. Has ls l) is h))))),
  (λ h. subst (λ ls. Has ls l) (sym is) (is_member (dedup pair_eq sorted) l
      (Contains-dedup pairs_equiv (λ x y e. same_pair x y (sym (pairs_tie x y) ∙ e)) sorted l
      (Contains-permutation old sorted l moved (contained old l h))))),
)

pub in_order : (sorted new : List (ℕ × ℕ)) → IsSorted pair_cmp sorted → new ≡ dedup pair_eq sorted
    → Ordered Precedes new
in_order sorted new up is =
    subst (Ordered Precedes) (sym is)
    (ordered_pairs (dedup pair_eq sorted) (IsStrictlySortedBy-dedup pairs_total pairs_tie sorted up))

-- ---- the search for a pair

pub pair_at : (ls : List (ℕ × ℕ)) (p : ℕ) (l : ℕ × ℕ) → p < length ls
    → HoldsAt (λ y. pair_cmp y l ≡ Equal) ls p → Has ls l
pair_at [] p l low h = absurd (omega arith)
pair_at (m ∷ ls) zero l low h = inl (same_pair m l (ap is_eq (h m)))
pair_at (m ∷ ls) (suc p) l low h = inr (pair_at ls p l (omega arith) h)

rising_pairs : (ls : List (ℕ × ℕ)) (l : ℕ × ℕ) → Ordered Precedes ls
    → IsNonDecreasingBy (λ y. ordering_index (pair_cmp y l)) ls
rising_pairs ls l up =
    searchable_from_sorted pairs_total (λ n. n) ls l
    (λ k d low high. ap is_lt (pairs_total.antisymm (get_or ls (k + 1) d) (get_or ls k d)
    ∙ ap ordering_reverse (comes_first (get_or ls k d) (get_or ls (k + 1) d)
    (ordered_at Precedes ls k (k + 1) d up (omega arith) high))))

pair_item : (ls : List (ℕ × ℕ)) (p : ℕ) (d l : ℕ × ℕ) → slice_get ls p ≡ Some l → get_or ls p d ≡ l
pair_item [] p d l e = absurd (cc)
pair_item (m ∷ ls) zero d l e = ap (λ o. unwrap_or o l) e
pair_item (m ∷ ls) (suc p) d l e = pair_item ls p d l e

pub pair_not_there : (ls : List (ℕ × ℕ)) (i : ℕ) (l : ℕ × ℕ) → Ordered Precedes ls
    → (IsNonDecreasingBy (λ y. ordering_index (pair_cmp y l)) ls
    → IsPartitionPoint (λ y. pair_cmp y l ≡ Less) (λ y. pair_cmp y l ≡ Greater) ls i)
    → ¬ Has ls l
pair_not_there ls i l up searched h =
    let parts = searched (rising_pairs ls l up) in
    let r = place_of ls l h in
    let low = within ls r.0 l r.1 in
    let same : is_eq (pair_cmp (get_or ls r.0 l) l) ≡ true =
    subst (λ (n : ℕ × ℕ). is_eq (pair_cmp n l) ≡ true) (sym (pair_item ls r.0 l l r.1))
    (ap is_eq (tied_itself pairs_total l)) in
    elim (cases_lt r.0 i) [
      | inl low ↦ let less = ap is_eq (parts.0 r.0 l (omega arith) low) in both_ways _ less same
      | inr far ↦ let more = ap is_eq (parts.1 r.0 l far low) in both_ways _ more same
    ]

-- ---- the pairs of both lists

-- of the pairs so far, those that are in the other list too
pub record SharedSoFar (before other both : List (ℕ × ℕ)) : Type 0 where
  pub ascend : Ordered Precedes both
  pub each : (l : ℕ × ℕ) → Has both l ↔ (Has before l × Has other l)

pub shared_none : (other : List (ℕ × ℕ)) → SharedSoFar [] other []
shared_none other = record { ascend = tt; each = λ l. ((λ h. absurd h), (λ h. absurd h.0)) }

-- in a list in order, an item comes before those behind it
ahead : (xs : List (ℕ × ℕ)) (y : ℕ × ℕ) (ys : List (ℕ × ℕ)) (x : ℕ × ℕ) → Ordered Precedes (xs ++ y ∷ ys) → Has xs x
    → Precedes x y
ahead [] y ys x up h = absurd h
ahead (z ∷ zs) y ys x up h = elim h [
  | inl e ↦ subst (λ w. Precedes w y) e
      (all_member (Precedes z) (zs ++ y ∷ ys) y up.0 (has_append_right zs (y ∷ ys) y (inl refl)))
  | inr k ↦ ahead zs y ys x up.1 k
]

-- the next pair is in the other list
pub shared_more : (all : List (ℕ × ℕ)) (before after other both : List (ℕ × ℕ)) (l : ℕ × ℕ) → Ordered Precedes all
    → all ≡ before ++ l ∷ after → Has other l → SharedSoFar before other both
    → SharedSoFar (before ++ l ∷ []) other (both ++ l ∷ [])
shared_more all before after other both l up split there s = record {
  ascend = ordered_more Precedes both l s.ascend
      (λ x h. ahead before l after x (subst (Ordered Precedes) split up) ((s.each x).0 h).0);
  each = λ x. (
    (λ h. elim (has_append_cases both (l ∷ []) x h) [
      | inl m ↦ let r = (s.each x).0 m in (has_append_left before (l ∷ []) x r.0, r.1)
      | inr m ↦ elim m [
        | inl e ↦ (has_append_right before (l ∷ []) x (inl e), subst (Has other) e there)
        | inr none ↦ absurd none
      ]
    ]),
    (λ h. elim (has_append_cases before (l ∷ []) x h.0) [
      | inl m ↦ has_append_left both (l ∷ []) x ((s.each x).1 (m, h.1))
      | inr m ↦ has_append_right both (l ∷ []) x m
    ]),
  );
}

-- the next pair is not
pub shared_same : (before other both : List (ℕ × ℕ)) (l : ℕ × ℕ) → ¬ Has other l → SharedSoFar before other both
    → SharedSoFar (before ++ l ∷ []) other both
shared_same before other both l none s = record {
  ascend = s.ascend;
  each = λ x. (
    (λ h. let r = (s.each x).0 h in (has_append_left before (l ∷ []) x r.0, r.1)),
    (λ h. elim (has_append_cases before (l ∷ []) x h.0) [
      | inl m ↦ (s.each x).1 (m, h.1)
      | inr m ↦ elim m [ inl e ↦ absurd (none (subst (Has other) (sym e) h.1)) | inr empty ↦ absurd empty ]
    ]),
  );
}
