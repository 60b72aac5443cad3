-- Sets of names, which are kept in any order and seen in ascending order.
use Rattle.std.proofs.Common.{◌≡◌, ◌∙◌, ◌↔◌, inl, inr, List, [], ◌∷◌, ℕ, Bool, true, false, cond, IsTrue, MatchBool}
use Rattle.std.proofs.Common.{not, arith}
use Rattle.std.proofs.Common.{length, nat_cmp, nat_eq, refl, sym, ap, subst, Less, Equal, Greater}
use Rattle.std.proofs.lemmas.Bool.{both_ways}
use Rattle.std.proofs.lemmas.Cmp.{nat_list_cmp_total, nat_list_eq_equiv}
use Rattle.std.proofs.lemmas.List.Kept.{IsStrictlySortedBy-dedup}
use Rattle.std.proofs.lemmas.List.Sorted.{Contains-permutation, IsPermutation-sym}
use Rattle.std.proofs.lemmas.Map.Keys.{IsDistinct-IsPermutation}
use Rattle.std.proofs.lemmas.Slice.Eq.{bytes_eq-Decides}
use Rattle.std.specs.BTreeSet.{insert_key}
use Rattle.std.specs.Cmp.Lexicographic.{pointwise, slice_cmp, texts_ties}
use Rattle.std.specs.List.{IsDistinct, dedup, dedup_from, list_any}
use Rattle.std.specs.List.Sorted.{IsPermutation, IsSorted}
use Rattle.std.specs.Ordering.{match_ordering, ordering_reverse}
use Rattle.ov_ids.specs.Members.{Has, Ordered}
use Rattle.ov_ids.proofs.Members.{all_from_members, all_member, any_from_has, has_from_any}
use Rattle.ov_dump.specs.Code.InOrder.{in_order}
use Rattle.ov_dump.specs.Names.{ComesBefore}
use Rattle.ov_dump.proofs.NameLists.{inserted, longer, ordered, same_names}
use Rattle.ov_dump.proofs.Places.{contained, is_member}

-- ---- names in order

-- they have the same members
pub order_each : (ks : List (List ℕ)) (n : List ℕ) → Has (in_order ks) n ↔ Has ks n
order_each [] n = ((λ h. h), (λ h. h))
order_each (k ∷ ks) n =
    let one = inserted (in_order ks) k n in
    let rest = order_each ks n in (
      (λ h. elim (one.0 h) [ inl e ↦ inl e | inr m ↦ inr (rest.0 m) ]),
      (λ h. one.1 (elim h [ inl e ↦ inl e | inr m ↦ inr (rest.1 m) ])),
    )

-- a name goes to its place
inserted_up : (names : List (List ℕ)) (k : List ℕ) → Ordered ComesBefore names
    → Ordered ComesBefore (insert_key (slice_cmp nat_cmp) names k)
inserted_up [] k up = (tt, tt)
inserted_up (x ∷ names) k up =
    elim (slice_cmp nat_cmp k x) as (λ o. slice_cmp nat_cmp k x ≡ o
    → Ordered ComesBefore
    (match_ordering o (k ∷ x ∷ names) (x ∷ names) (x ∷ insert_key (slice_cmp nat_cmp) names k))) [
      | Less ↦ λ e. (
        (
          e,
          all_from_members (ComesBefore k) names
              (λ n h. nat_list_cmp_total.trans k x n e (all_member (ComesBefore x) names n up.0 h)),
        ),
        up,
      )
      | Equal ↦ λ e. up
      | Greater ↦ λ e. (
        all_from_members (ComesBefore x) (insert_key (slice_cmp nat_cmp) names k)
            (λ n h. elim ((inserted names k n).0 h) [
              | inl same ↦ subst (ComesBefore x) same (nat_list_cmp_total.antisymm x k ∙ ap ordering_reverse e)
              | inr m ↦ all_member (ComesBefore x) names n up.0 m
            ]),
        inserted_up names k up.1,
      )
    ] refl

pub order_up : (ks : List (List ℕ)) → Ordered ComesBefore (in_order ks)
order_up [] = tt
order_up (k ∷ ks) = inserted_up (in_order ks) k (order_up ks)

-- names in another order are the same in order
pub same_order : (ks others : List (List ℕ)) → IsPermutation ks others → in_order others ≡ in_order ks
same_order ks others moved =
    same_names (in_order others) (in_order ks) (order_up others) (order_up ks)
    (λ n h. (order_each ks n).1 (is_member ks n (Contains-permutation others ks n (IsPermutation-sym ks others moved)
    (contained others n ((order_each others n).0 h)))))
    (λ n h. (order_each others n).1 (is_member others n (Contains-permutation ks others n moved
    (contained ks n ((order_each ks n).0 h)))))

-- ---- the keys of a set

-- the test for a member agrees with the relation
pub found_key : (ks : List (List ℕ)) (n : List ℕ) (b : Bool) → b ≡ list_any (pointwise nat_eq n) ks
    → IsTrue b ↔ Has (in_order ks) n
found_key ks n b e = (
  (λ t. let r = has_from_any (pointwise nat_eq n) ks (sym e ∙ t) in
      (order_each ks n).1 (subst (Has ks) (sym ((bytes_eq-Decides n r.0).0 r.2)) r.1)),
  (λ h. e ∙ any_from_has (pointwise nat_eq n) ks n ((order_each ks n).0 h) ((bytes_eq-Decides n n).1 refl)),
)

-- keys of which no two are equal are as many in order
pub order_len : (ks : List (List ℕ)) → IsDistinct (pointwise nat_eq) ks → length (in_order ks) ≡ length ks
unfolding IsDistinct
order_len [] differ = refl
order_len (k ∷ ks) differ =
    let none = λ (h : Has ks k). both_ways (pointwise nat_eq k k)
    (all_member (λ y. pointwise nat_eq k y ≡ false) ks k differ.0 h) ((bytes_eq-Decides k k).1 refl) in
    let rest = order_len ks differ.1 in
    let more = longer (in_order ks) k (λ h. none ((order_each ks k).0 h)) in omega (arith, rest, more)

negated : (b : Bool) → false ≡ not b → b ≡ true
negated true e = refl
negated false e = absurd (cc)

-- a key that was none of the names is added, and goes to its place
pub key_added : (old new names : List (List ℕ)) (k : List ℕ) (added : Bool) → in_order old ≡ names → ¬ Has names k
    → added ≡ not (list_any (pointwise nat_eq k) old) → MatchBool added (IsPermutation (k ∷ old) new) (new ≡ old)
    → in_order new ≡ insert_key (slice_cmp nat_cmp) names k
key_added old new names k true view none e p =
    same_order (k ∷ old) new p ∙ ap (λ ns. insert_key (slice_cmp nat_cmp) ns k) view
key_added old new names k false view none e p =
    let b = list_any (pointwise nat_eq k) old in
    absurd (none (subst (λ ns. Has ns k) view ((found_key old k b refl).0 (negated b e))))

-- ---- sorted keys

-- where no two are equal, each is left once as it is
left_alone : (k : List ℕ) (ks : List (List ℕ)) → IsDistinct (pointwise nat_eq) (k ∷ ks)
    → dedup_from (pointwise nat_eq) k ks ≡ k ∷ ks
unfolding IsDistinct
left_alone k [] differ = refl
left_alone k (x ∷ ks) differ =
    ap (λ b. cond b (dedup_from (pointwise nat_eq) k ks) (k ∷ dedup_from (pointwise nat_eq) x ks))
    (nat_list_eq_equiv.symm x k ∙ differ.0.0)
    ∙ ap (λ ns. k ∷ ns) (left_alone x ks differ.1)

all_left : (ks : List (List ℕ)) → IsDistinct (pointwise nat_eq) ks → dedup (pointwise nat_eq) ks ≡ ks
all_left [] differ = refl
all_left (k ∷ ks) differ = left_alone k ks differ

pub sorted_keys : (ks sorted : List (List ℕ)) → IsDistinct (pointwise nat_eq) ks → IsPermutation ks sorted
    → IsSorted (slice_cmp nat_cmp) sorted → sorted ≡ in_order ks
sorted_keys ks sorted differ moved up =
    let apart = IsDistinct-IsPermutation (pointwise nat_eq) nat_list_eq_equiv.symm ks sorted moved differ in
    let left : dedup (pointwise nat_eq) sorted ≡ sorted = all_left sorted apart in
    let strict = ordered (dedup (pointwise nat_eq) sorted)
    (IsStrictlySortedBy-dedup nat_list_cmp_total texts_ties sorted up) in
    same_names sorted (in_order ks) (subst (Ordered ComesBefore) left strict) (order_up ks)
    (λ n h. (order_each ks n).1 (is_member ks n (Contains-permutation sorted ks n (IsPermutation-sym ks sorted moved)
    (contained sorted n h))))
    (λ n h. is_member sorted n (Contains-permutation ks sorted n moved (contained ks n ((order_each ks n).0 h))))
