-- The ids of the live nodes, as the entries of a map tell them, and sorted.
use Rattle.std.proofs.Common.{◌≡◌, ◌↔◌, ◌⊎◌, ◌≢◌, false, ℕ, suc, ◌+◌, ◌<◌, ◌≤◌, nat_eq, List, [], ◌∷◌, ◌++◌, length}
use Rattle.std.proofs.Common.{cond, drop, Some, slice_get, inl, inr, refl, sym, ap, subst, ◌∙◌, arith}
use Rattle.std.proofs.Common.{append-nil, append_assoc, zero, eq-eqb, Result, Ok, Err, IfOk}
use Rattle.std.proofs.lemmas.Bool.{cases_eq, ne_eqb}
use Rattle.std.proofs.lemmas.Cmp.{nat_cmp_total, by_ranked, ranked}
use Rattle.std.proofs.Math.Seq.{drop-cons}
use Rattle.std.proofs.lemmas.Option.{get_or_from_slice_get, slice_get_within}
use Rattle.std.proofs.lemmas.List.Kept.{Contains-dedup_nat, Contains-from_dedup, IsStrictlySortedBy-dedup}
use Rattle.std.proofs.lemmas.List.Sorted.{Contains-permutation, IsPermutation-sym}
use Rattle.std.proofs.lemmas.Map.Keys.{sorted_head, sorted_tail}
use Rattle.std.specs.Cmp.{unsigned_ties}
use Rattle.std.specs.declared.cmp.Ordering.TheVariants.{Less, Equal, Greater}
use Rattle.std.specs.FinMap as map
use Rattle.std.specs.List.{AllByRecursion, Contains, IsDistinct, dedup}
use Rattle.std.specs.List.Sorted.{IsPermutation, IsSorted, IsStrictlySortedBy}
use Rattle.std.specs.Map.{lookup, keys_of}
use Rattle.std.specs.Ordering.{nat_cmp}
use Rattle.ov_ids.specs.Members.{Has, Ascends}
use Rattle.ov_ids.proofs.Members.{all_from_members, all_member, has_append_cases, has_append_left, has_append_right}
use Rattle.ov_ids.proofs.Members.{has_place}
use Rattle.ov_peer.specs.PeerState.{PeerState}
use Rattle.ov_net.specs.Code.LinkChanges.{IsLive, id_if_live}
use Rattle.ov_net.specs.declared.member.Member.{Member}
use Rattle.ov_net.specs.declared.member.Member.TheVariants as member
use Rattle.ov_net.proofs.Journal.Outcomes.{gone_dead, same_some}
use Rattle.ov_net.proofs.Steps.Members.{found}

-- the ids of the live ones among these nodes
abbrev pub live_of : List (ℕ × Member) → List ℕ
live_of [] = []
live_of (e ∷ es) = id_if_live e.0 e.1 ++ live_of es

-- the entry at a place stands before those behind it
entry_first : (es : List (ℕ × Member)) (i : ℕ) (e : ℕ × Member) → slice_get es i ≡ Some e
    → drop i es ≡ e ∷ drop (i + 1) es
entry_first es i e at =
    let next : suc i ≡ i + 1 = omega arith in
    drop-cons es i e (slice_get_within es i e at) ∙ ap (λ x. x ∷ drop (suc i) es) (get_or_from_slice_get es i e e at)
    ∙ ap (λ (n : ℕ). e ∷ drop n es) next

-- one node more
pub live_more : (es : List (ℕ × Member)) (i : ℕ) (e : ℕ × Member) (ids more : List ℕ) → slice_get es i ≡ Some e
    → more ≡ ids ++ id_if_live e.0 e.1 → ids ++ live_of (drop i es) ≡ live_of es
    → more ++ live_of (drop (i + 1) es) ≡ live_of es
live_more es i e ids more at is so =
    ap (λ (xs : List ℕ). xs ++ live_of (drop (i + 1) es)) is
    ∙ append_assoc ids (id_if_live e.0 e.1) (live_of (drop (i + 1) es))
    ∙ ap (λ (xs : List (ℕ × Member)). ids ++ live_of xs) (sym (entry_first es i e at)) ∙ so

none_left : (es : List (ℕ × Member)) (i : ℕ) → length es ≤ i → drop i es ≡ []
none_left [] zero end = refl
none_left [] (suc i) end = refl
none_left (e ∷ es) zero end = absurd (omega (arith, end))
none_left (e ∷ es) (suc i) end = none_left es i (omega (arith, end))

-- after the last node
pub live_all : (es : List (ℕ × Member)) (i : ℕ) (ids : List ℕ) → length es ≤ i
    → ids ++ live_of (drop i es) ≡ live_of es → ids ≡ live_of es
live_all es i ids end so =
    sym (append-nil ids) ∙ ap (λ (xs : List (ℕ × Member)). ids ++ live_of xs) (sym (none_left es i end)) ∙ so

-- an id is told of a live node alone, and of each
own_id : (a : ℕ) (m : Member) (b : ℕ) → Has (id_if_live a m) b ↔ ((a ≡ b) × ((p : PeerState) × (m ≡ member.Live p)))
own_id a (member.Live p) b = (
  (λ h. elim h [ inl e ↦ (e, (p, refl)) | inr none ↦ absurd none ]),
  (λ h. inl h.0),
)
own_id a member.Gone b = ((λ h. absurd h), (λ h. absurd (gone_dead h.1.0 h.1.1)))

absent : (x : ℕ) (es : List (ℕ × Member)) (p : PeerState) → AllByRecursion (λ y. nat_eq x y ≡ false) (keys_of es)
    → ¬ (lookup (nat_eq x) es ≡ Some (member.Live p))
absent x [] p all = λ e. absurd cc
absent x (e ∷ es) p all = λ at.
    absent x es p all.1 (sym (ap (λ b. cond b (Some e.1) (lookup (nat_eq x) es)) all.0) ∙ at)

-- the ids are those of the live nodes of the map
live_looked : (es : List (ℕ × Member)) → IsDistinct nat_eq (keys_of es) → (a : ℕ)
    → Has (live_of es) a ↔ ((p : PeerState) × (lookup (nat_eq a) es ≡ Some (member.Live p)))
unfolding IsDistinct
live_looked [] distinct a = ((λ h. absurd h), (λ h. absurd cc))
live_looked (e ∷ es) distinct a = by (cases_eq a e.0) (live_looked es distinct.1 a)
  where
    first : a ≡ e.0 → lookup (nat_eq a) (e ∷ es) ≡ Some e.1
    first same = ap (λ b. cond b (Some e.1) (lookup (nat_eq a) es)) (eq-eqb a e.0 same)

    later : a ≢ e.0 → lookup (nat_eq a) (e ∷ es) ≡ lookup (nat_eq a) es
    later other = ap (λ b. cond b (Some e.1) (lookup (nat_eq a) es)) (ne_eqb a e.0 other)

    by : (a ≡ e.0) ⊎ (a ≢ e.0)
        → Has (live_of es) a ↔ ((p : PeerState) × (lookup (nat_eq a) es ≡ Some (member.Live p)))
        → Has (live_of (e ∷ es)) a ↔ ((p : PeerState) × (lookup (nat_eq a) (e ∷ es) ≡ Some (member.Live p)))
    by (inl same) rest = (
      (λ h. elim (has_append_cases (id_if_live e.0 e.1) (live_of es) a h) [
        | inl k ↦ let r = ((own_id e.0 e.1 a).0 k).1 in (r.0, first same ∙ ap (λ (m : Member). Some m) r.1)
        | inr k ↦ let r = rest.0 k in
            absurd (absent e.0 es r.0 distinct.0 (ap (λ x. lookup (nat_eq x) es) (sym same) ∙ r.1))
      ]),
      (λ r. has_append_left (id_if_live e.0 e.1) (live_of es) a
          ((own_id e.0 e.1 a).1 (sym same, (r.0, same_some e.1 (member.Live r.0) (sym (first same) ∙ r.1))))),
    )
    by (inr other) rest = (
      (λ h. elim (has_append_cases (id_if_live e.0 e.1) (live_of es) a h) [
        | inl k ↦ absurd (other (sym ((own_id e.0 e.1 a).0 k).0))
        | inr k ↦ let r = rest.0 k in (r.0, later other ∙ r.1)
      ]),
      (λ r. has_append_right (id_if_live e.0 e.1) (live_of es) a (rest.1 (r.0, sym (later other) ∙ r.1))),
    )

pub live_ids : (es : List (ℕ × Member)) (ids : List ℕ) → IsDistinct nat_eq (keys_of es) → ids ≡ live_of es
    → (a : ℕ) → Has ids a ↔ IsLive (map.from_entries es) a
live_ids es ids distinct is a =
    let looked = live_looked es distinct a in (
      (λ h. let r = looked.0 (subst (λ (xs : List ℕ). Has xs a) is h) in (r.0, found es a ∙ r.1)),
      (λ r. subst (λ (xs : List ℕ). Has xs a) (sym is) (looked.1 (r.0, sym (found es a) ∙ r.1))),
    )

-- ids that are sorted, of which each is left once, ascend
strict : (xs : List ℕ) → IsStrictlySortedBy nat_cmp xs → Ascends xs
strict [] up = tt
strict (x ∷ xs) up = (
  all_from_members (λ y. x < y) xs
      (λ y h. less x y (all_member (λ y. nat_cmp x y ≡ Less) xs y (sorted_head nat_cmp x xs up) h)),
  strict xs (sorted_tail nat_cmp x xs up),
)
  where
    less : (x y : ℕ) → nat_cmp x y ≡ Less → x < y
    less x y e =
        by_ranked (x < y) (x ≡ y) (y < x) (nat_cmp x y) (ranked x y (nat_cmp x y) refl)
        (λ o p. p)
        (λ o p. let f : Equal ≡ Less = sym o ∙ e in absurd (cc))
        (λ o p. let f : Greater ≡ Less = sym o ∙ e in absurd (cc))

pub ids_ascend : (sorted new : List ℕ) → IsSorted nat_cmp sorted → new ≡ dedup nat_eq sorted → Ascends new
ids_ascend sorted new up is =
    subst Ascends (sym is)
    (strict (dedup nat_eq sorted) (IsStrictlySortedBy-dedup nat_cmp_total unsigned_ties sorted up))

has_contains : (xs : List ℕ) (x : ℕ) → Has xs x → Contains xs x
has_contains [] x h = absurd h
has_contains (y ∷ xs) x h = elim h [
  | inl e ↦ (zero, omega arith, e)
  | inr k ↦ let r = has_contains xs x k in let low = r.1 in (suc r.0, omega (arith, low), r.2)
]

contains_has : (xs : List ℕ) (x : ℕ) → Contains xs x → Has xs x
contains_has xs x c = subst (Has xs) c.2 (has_place xs c.0 x c.1)

-- and they have the same members
pub ids_stay : (old sorted new : List ℕ) → IsPermutation old sorted → new ≡ dedup nat_eq sorted
    → (x : ℕ) → Has new x ↔ Has old x
ids_stay old sorted new moved is x = (
  (λ h. contains_has old x (Contains-permutation sorted old x (IsPermutation-sym old sorted moved)
      (Contains-from_dedup nat_eq sorted x
      (has_contains (dedup nat_eq sorted) x (subst (λ xs. Has xs x) is h))))),
  (λ h. subst (λ xs. Has xs x) (sym is) (contains_has (dedup nat_eq sorted) x
      (Contains-dedup_nat sorted x (Contains-permutation old sorted x moved (has_contains old x h))))),
)

-- what follows from what holds at Ok, by two clauses
pub both_ok : {A E : Type 0} (r : Result A E) (P Q R : A → Type 0) → ((x : A) → P x → Q x → R x) → IfOk r P → IfOk r Q
    → IfOk r R
both_ok (Ok x) P Q R f p q = f x p q
both_ok (Err e) P Q R f p q = tt
