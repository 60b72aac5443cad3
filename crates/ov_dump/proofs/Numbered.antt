-- The nodes of names.
use Rattle.std.proofs.Common.{◌≡◌, ◌≢◌, ◌∙◌, ◌↔◌, ◌⊎◌, ◌≤◌, ◌<◌, inl, inr, List, [], ◌∷◌, ◌++◌, ℕ, zero, suc}
use Rattle.std.proofs.Common.{sym, ap, subst, refl, length, slice_get, Some, unwrap_or, arith, pred}
use Rattle.std.proofs.Common.{eq-or-lt_of_le}
use Rattle.ov_ids.specs.Members.{Has, Ordered}
use Rattle.ov_ids.proofs.Members.{all_from_members, all_member, has_append_cases, has_append_left, has_append_right}
use Rattle.ov_dump.specs.Code.Numbering.{NodeLists}
use Rattle.ov_dump.specs.Dumps.{AreNumbered, HasLowerKey, IsNameOf, ends_of, key_of, numbers}
use Rattle.ov_dump.specs.Names.{ComesBefore}
use Rattle.ov_dump.specs.declared.dump_and_graph_types.Listing.{Listing}
use Rattle.ov_dump.proofs.Answering.{ends_append}
use Rattle.ov_dump.proofs.NameLists.{one_way}
use Rattle.ov_dump.proofs.Places.{member_at, within}

-- ---- the nodes 1 to n

pub in_numbers : (n i : ℕ) → 0 < i → i ≤ n → Has (numbers n) i
in_numbers zero i low high = absurd (omega (arith, low, high))
in_numbers (suc n) i low high = elim (eq-or-lt_of_le high) [
  | inl e ↦ has_append_right (numbers n) (suc n ∷ []) i (inl (sym e))
  | inr l ↦ has_append_left (numbers n) (suc n ∷ []) i (in_numbers n i low (omega (arith, l)))
]

-- ---- which node has a name

-- a node has one name
pub name_one : (names : List (List ℕ)) (i : ℕ) (a b : List ℕ) → IsNameOf names i a → IsNameOf names i b → a ≡ b
name_one names i a b (p, e, s) (q, f, t) =
    let same : p ≡ q = ap pred (sym e ∙ f) in
    ap (λ o. unwrap_or o a) (sym s ∙ ap (slice_get names) same ∙ t)

-- no name is there twice
abbrev pub Differ : List (List ℕ) → Type 0
Differ = Ordered (λ m n. m ≢ n)

pub place_one : (names : List (List ℕ)) (p q : ℕ) (a : List ℕ) → Differ names → slice_get names p ≡ Some a
    → slice_get names q ≡ Some a → p ≡ q
place_one [] p q a up s t = absurd (cc)
place_one (n ∷ names) zero zero a up s t = refl
place_one (n ∷ names) zero (suc q) a up s t =
    let e : n ≡ a = ap (λ o. unwrap_or o a) s in
    absurd (all_member (λ m. n ≢ m) names a up.0 (member_at names q a t) e)
place_one (n ∷ names) (suc p) zero a up s t =
    let e : n ≡ a = ap (λ o. unwrap_or o a) t in
    absurd (all_member (λ m. n ≢ m) names a up.0 (member_at names p a s) e)
place_one (n ∷ names) (suc p) (suc q) a up s t = ap suc (place_one names p q a up.1 s t)

-- names in an order that relates none to itself differ
differ_from : (R : List ℕ → List ℕ → Type 0) → ((a : List ℕ) → R a a → ⊥) → (names : List (List ℕ)) → Ordered R names
    → Differ names
differ_from R never [] up = tt
differ_from R never (n ∷ names) up = (
  all_from_members (λ m. n ≢ m) names
      (λ m h e. never m (subst (λ (x : List ℕ). R x m) e (all_member (R n) names m up.0 h))),
  differ_from R never names up.1,
)

pub ascending_differ : (names : List (List ℕ)) → Ordered ComesBefore names → Differ names
ascending_differ names up = differ_from ComesBefore (λ a r. one_way a a r r) names up

-- of two names one has the lower key
pub lower_once : (sorted : List (List ℕ)) → Ordered ComesBefore sorted → (a b : List ℕ) → HasLowerKey sorted a b
    → HasLowerKey sorted b a → ⊥
lower_once sorted up a b (p, q, s, t, l) (q', p', t', s', m) =
    let differ = ascending_differ sorted up in
    let first = ap (key_of (length sorted)) (place_one sorted p p' a differ s s') in
    let second = ap (key_of (length sorted)) (place_one sorted q q' b differ t t') in
    omega (arith, l, m, first, second)

-- names that are numbered differ
pub numbered_differ : (sorted names : List (List ℕ)) → Ordered ComesBefore sorted → AreNumbered sorted names
    → Differ names
numbered_differ sorted names up numbered =
    differ_from (HasLowerKey sorted) (λ a r. lower_once sorted up a a r r) names numbered.ascend

-- a name is that of one node
pub node_one : (names : List (List ℕ)) (i j : ℕ) (a : List ℕ) → Differ names → IsNameOf names i a
    → IsNameOf names j a → i ≡ j
node_one names i j a up (p, e, s) (q, f, t) = e ∙ ap suc (place_one names p q a up s t) ∙ sym f

-- different nodes have different names
pub names_differ : (names : List (List ℕ)) (i j : ℕ) (a b : List ℕ) → Differ names → i ≢ j
    → IsNameOf names i a → IsNameOf names j b → a ≢ b
names_differ names i j a b up far p q same = far (node_one names i j b up (subst (IsNameOf names i) same p) q)

-- different names are those of different nodes
pub nodes_differ : (names : List (List ℕ)) (i j : ℕ) (a b : List ℕ) → a ≢ b
    → IsNameOf names i a → IsNameOf names j b → i ≢ j
nodes_differ names i j a b far p q same =
    far (name_one names j a b (subst (λ (x : ℕ). IsNameOf names x a) same p) q)

-- a node with a name is one of the numbers
pub named_node : (names : List (List ℕ)) (i : ℕ) (a : List ℕ) → IsNameOf names i a
    → Has (numbers (length names)) i
named_node names i a (p, e, s) =
    let l = within names p a s in in_numbers (length names) i (omega (arith, e)) (omega (arith, e, l))

pub name_is : (names : List (List ℕ)) (i : ℕ) (a : List ℕ) → IsNameOf names i a → Has names a
name_is names i a (p, e, s) = member_at names p a s

-- ---- one listing

ends_from : (l : Listing) (a b : List ℕ) → Has (ends_of (l ∷ [])) (a, b) → (l.from ≡ a) × (l.to ≡ b)
ends_from l a b h = elim h [
  | inl e ↦ (ap (λ (p : List ℕ × List ℕ). p.0) e, ap (λ (p : List ℕ × List ℕ). p.1) e)
  | inr none ↦ absurd none
]

-- who lists whom, by one listing of two nodes
pub one_lists : (names : List (List ℕ)) (l : Listing) (from to : ℕ) → Differ names
    → IsNameOf names from l.from → IsNameOf names to l.to
    → (i j : ℕ) → NodeLists names (l ∷ []) i j ↔ ((i ≡ from) × (j ≡ to))
one_lists names l from to up f t i j = (
  (λ h. let e = ends_from l h.0 h.1 h.4 in (
    node_one names i from l.from up (subst (IsNameOf names i) (sym e.0) h.2) f,
    node_one names j to l.to up (subst (IsNameOf names j) (sym e.1) h.3) t,
  )),
  (λ h. (
    l.from,
    l.to,
    subst (λ (x : ℕ). IsNameOf names x l.from) (sym h.0) f,
    subst (λ (x : ℕ). IsNameOf names x l.to) (sym h.1) t,
    inl refl,
  )),
)

-- a listing of one node by itself says nothing of two nodes
pub of_itself : (names : List (List ℕ)) (l : Listing) (from to : ℕ) → Differ names
    → IsNameOf names from l.from → IsNameOf names to l.to → from ≡ to
    → (i j : ℕ) → i ≢ j → NodeLists names (l ∷ []) i j → ⊥
of_itself names l from to up f t same i j far h =
    let e = (one_lists names l from to up f t i j).0 h in far (e.0 ∙ same ∙ sym e.1)

pub from_stranger : (names : List (List ℕ)) (l : Listing) (i j : ℕ) → ¬ Has names l.from
    → NodeLists names (l ∷ []) i j → ⊥
from_stranger names l i j none (a, b, p, q, k) =
    none (subst (Has names) (sym (ends_from l a b k).0) (name_is names i a p))

pub to_stranger : (names : List (List ℕ)) (l : Listing) (i j : ℕ) → ¬ Has names l.to
    → NodeLists names (l ∷ []) i j → ⊥
to_stranger names l i j none (a, b, p, q, k) =
    none (subst (Has names) (sym (ends_from l a b k).1) (name_is names j b q))

-- ---- several listings

pub lists_more : (names : List (List ℕ)) (before : List Listing) (l : Listing) (i j : ℕ)
    → NodeLists names (before ++ l ∷ []) i j ↔ (NodeLists names (l ∷ []) i j ⊎ NodeLists names before i j)
lists_more names before l i j =
    let e = ends_append before (l ∷ []) in (
      (λ h. elim (has_append_cases (ends_of before) (ends_of (l ∷ [])) (h.0, h.1)
          (subst (λ (es : List (List ℕ × List ℕ)). Has es (h.0, h.1)) e h.4)) [
            | inl m ↦ inr (h.0, h.1, h.2, h.3, m)
            | inr m ↦ inl (h.0, h.1, h.2, h.3, m)
          ]),
      (λ h. elim h [
        | inl r ↦ (
          r.0,
          r.1,
          r.2,
          r.3,
          subst (λ (es : List (List ℕ × List ℕ)). Has es (r.0, r.1)) (sym e)
              (has_append_right (ends_of before) (ends_of (l ∷ [])) (r.0, r.1) r.4),
        )
        | inr r ↦ (
          r.0,
          r.1,
          r.2,
          r.3,
          subst (λ (es : List (List ℕ × List ℕ)). Has es (r.0, r.1)) (sym e)
              (has_append_left (ends_of before) (ends_of (l ∷ [])) (r.0, r.1) r.4),
        )
      ]),
    )

pub none_lists : (names : List (List ℕ)) (i j : ℕ) → NodeLists names [] i j → ⊥
none_lists names i j (a, b, p, q, k) = k
