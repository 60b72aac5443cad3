-- Names that ascend, and whether a name is among them.
use Rattle.std.proofs.Common.{◌≡◌, ◌∙◌, ◌↔◌, ◌⊎◌, ◌+◌, inl, inr, length, arith, List, [], ◌∷◌, ℕ, true}
use Rattle.std.proofs.Common.{sym, ap, nat_cmp}
use Rattle.std.proofs.Common.{Less, Equal, Greater, is_eq, refl}
use Rattle.std.proofs.lemmas.Cmp.{nat_list_cmp_total}
use Rattle.std.proofs.lemmas.Map.Keys.{sorted_head, sorted_tail}
use Rattle.std.proofs.lemmas.Map.Text.{is_eq-slice_cmp}
use Rattle.std.proofs.lemmas.Slice.Eq.{bytes_eq-Decides}
use Rattle.std.specs.BTreeSet.{insert_key}
use Rattle.std.specs.Cmp.Lexicographic.{slice_cmp}
use Rattle.std.specs.List.Sorted.{IsStrictlySortedBy}
use Rattle.std.specs.Ordering.{match_ordering, ordering_reverse}
use Rattle.ov_ids.specs.Members.{Has, Ordered}
use Rattle.ov_ids.proofs.Members.{same_ordered}
use Rattle.ov_dump.specs.Names.{ComesBefore}

-- the order goes one way
pub one_way : (a b : List ℕ) → ComesBefore a b → ComesBefore b a → ⊥
one_way a b p q =
    let e : Less ≡ Greater = sym p ∙ nat_list_cmp_total.antisymm a b ∙ ap ordering_reverse q in absurd (cc)

-- the keys of a set ascend
pub ordered : (names : List (List ℕ)) → IsStrictlySortedBy (slice_cmp nat_cmp) names → Ordered ComesBefore names
ordered [] up = tt
ordered (n ∷ names) up =
    (sorted_head (slice_cmp nat_cmp) n names up, ordered names (sorted_tail (slice_cmp nat_cmp) n names up))

-- names that tie are one name
pub tie : (a b : List ℕ) → is_eq (slice_cmp nat_cmp a b) ≡ true → a ≡ b
tie a b e = (bytes_eq-Decides a b).0 (sym (is_eq-slice_cmp a b) ∙ e)

pub ties : (a : List ℕ) → is_eq (slice_cmp nat_cmp a a) ≡ true
ties a = is_eq-slice_cmp a a ∙ (bytes_eq-Decides a a).1 refl

-- names that strictly ascend and have the same members are one list
pub same_names : (names others : List (List ℕ)) → Ordered ComesBefore names → Ordered ComesBefore others
    → ((n : List ℕ) → Has names n → Has others n) → ((n : List ℕ) → Has others n → Has names n) → names ≡ others
same_names names others = same_ordered ComesBefore one_way names others

-- who is in a set with one name more
pub inserted : (names : List (List ℕ)) (k n : List ℕ)
    → Has (insert_key (slice_cmp nat_cmp) names k) n ↔ ((k ≡ n) ⊎ Has names n)
inserted [] k n = ((λ h. h), (λ h. h))
inserted (x ∷ names) k n =
    elim (slice_cmp nat_cmp k x) as (λ o. slice_cmp nat_cmp k x ≡ o
    → Has (match_ordering o (k ∷ x ∷ names) (x ∷ names) (x ∷ insert_key (slice_cmp nat_cmp) names k)) n
    ↔ ((k ≡ n) ⊎ Has (x ∷ names) n)) [
      | Less ↦ λ e. ((λ h. h), (λ h. h))
      | Equal ↦ λ e. (
        (λ h. inr h),
        (λ h. elim h [ inl same ↦ inl (sym (tie k x (ap is_eq e)) ∙ same) | inr m ↦ m ]),
      )
      | Greater ↦ λ e. let rest = inserted names k n in (
        (λ h. elim h [
          | inl same ↦ inr (inl same)
          | inr m ↦ elim (rest.0 m) [ inl same ↦ inl same | inr o ↦ inr (inr o) ]
        ]),
        (λ h. elim h [
          | inl same ↦ inr (rest.1 (inl same))
          | inr m ↦ elim m [ inl same ↦ inl same | inr o ↦ inr (rest.1 (inr o)) ]
        ]),
      )
    ] refl

-- a name that was no member makes the set longer
pub longer : (names : List (List ℕ)) (k : List ℕ) → ¬ Has names k
    → length (insert_key (slice_cmp nat_cmp) names k) ≡ length names + 1
longer [] k none = refl
longer (x ∷ names) k none =
    elim (slice_cmp nat_cmp k x) as (λ o. slice_cmp nat_cmp k x ≡ o
    → length (match_ordering o (k ∷ x ∷ names) (x ∷ names) (x ∷ insert_key (slice_cmp nat_cmp) names k))
    ≡ length (x ∷ names) + 1) [
      | Less ↦ λ e. omega arith
      | Equal ↦ λ e. absurd (none (inl (sym (tie k x (ap is_eq e)))))
      | Greater ↦ λ e. let rest = longer names k (λ h. none (inr h)) in omega (arith, rest)
    ] refl
