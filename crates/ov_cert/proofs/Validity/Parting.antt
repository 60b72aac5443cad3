-- The tests of a cut and its side are equivalent to the relations. A cut whose side is cut off splits the group.
use Rattle.std.proofs.Common.{◌≡◌, ◌≢◌, ◌↔◌, ◌⊎◌, ℕ, zero, suc, ◌<◌, length, eqb, inl, inr, List, [], ◌∷◌, Bool}
use Rattle.std.proofs.Common.{true, false, not, ◌&&◌, ◌||◌, IsTrue, None, is_none, slice_get, nat_lt, ◌≤◌, refl, ap}
use Rattle.std.proofs.Common.{subst, arith}
use Rattle.std.proofs.lemmas.Bool.{ne_eqb, and_parts, and_from, or_cases, or_left, or_right, both_ways, ltb-true}
use Rattle.std.proofs.lemmas.Bool.{ltb-false}
use Rattle.std.specs.List.{list_all}
use Rattle.ov_ids.specs.Members.{Has, Ascends}
use Rattle.ov_ids.specs.Sets.{has}
use Rattle.ov_ids.specs.Ascending.{ascends_after}
use Rattle.ov_ids.proofs.Members.{has_tested}
use Rattle.ov_ids.proofs.Rising.{ascends_tested}
use Rattle.ov_graph.specs.Links.{LinkGraph, IsGraph, IsGroup, Linked, AreAllLinked}
use Rattle.ov_graph.specs.Joined.{Survives, Joined, IsNodeSet, SplitsGroup}
use Rattle.ov_graph.specs.Code.Tests.{neighbours_in}
use Rattle.ov_graph.proofs.EvenTest.Tested.{linked_or_not}
use Rattle.ov_graph.proofs.EvenTest.Filtered.{are_neighbours}
use Rattle.ov_graph.proofs.EvenTest.Walks.{linked_sym, joined_keeps}
use Rattle.ov_cert.specs.declared.cert.Split.{Split}
use Rattle.ov_cert.specs.Valid.{IsCutOff}
use Rattle.ov_cert.specs.Code.Tests.{is_node_set, is_group, survives, ends_within, is_cut_off, all_linked}
use Rattle.ov_cert.specs.Code.Tests.{pairs_after}
use Rattle.ov_cert.proofs.EntryOrder.Columns.{after_sound, after_complete}

-- the tests of two facts combined
pub and_tested : {P Q : Type 0} (a b : Bool) → (IsTrue a ↔ P) → (IsTrue b ↔ Q) → IsTrue (a && b) ↔ P × Q
and_tested a b s t = ((λ h. let p = and_parts a b h in (s.0 p.0, t.0 p.1)), (λ h. and_from a b (s.1 h.0) (t.1 h.1)))

pub or_tested : {P Q : Type 0} (a b : Bool) → (IsTrue a ↔ P) → (IsTrue b ↔ Q) → IsTrue (a || b) ↔ (P ⊎ Q)
or_tested a b s t = (
  (λ h. elim (or_cases a b h) [ inl e ↦ inl (s.0 e) | inr e ↦ inr (t.0 e) ]),
  (λ h. elim h [ inl p ↦ or_left a b (s.1 p) | inr q ↦ or_right a b (t.1 q) ]),
)

pub not_tested : {P : Type 0} (a : Bool) → (IsTrue a ↔ P) → IsTrue (not a) ↔ (¬ P)
not_tested true s = ((λ h p. both_ways false refl h), (λ n. absurd (n (s.0 refl))))
not_tested false s = ((λ h p. both_ways false refl (s.1 p)), (λ n. refl))

-- a test of each member of a list
pub all_tested : {X : Type 0} (test : X → Bool) (P : X → Type 0) (xs : List X) → ((x : X) → IsTrue (test x) ↔ P x)
    → IsTrue (list_all test xs) ↔ ((x : X) → Has xs x → P x)
all_tested test P [] each = ((λ h x k. absurd k), (λ h. refl))
all_tested test P (y ∷ ys) each =
    let r = and_tested (test y) (list_all test ys) (each y) (all_tested test P ys each) in (
      (λ h x k. let q = r.0 h in elim k [ inl e ↦ subst P e q.0 | inr m ↦ q.1 x m ]),
      (λ h. r.1 (h y (inl refl), λ x m. h x (inr m))),
    )

-- the test of membership
pub member_tested : (xs : List ℕ) (x : ℕ) → IsTrue (has xs x) ↔ Has xs x
member_tested xs x = has_tested xs x (has xs x) refl

set_parts : (g : LinkGraph) (ids : List ℕ) → IsTrue (is_node_set g ids) ↔ Ascends ids
    × ((x : ℕ) → Has ids x → Has g.nodes x)
set_parts g ids =
    and_tested (ascends_after None ids) (list_all (λ x. has g.nodes x) ids)
    (ascends_tested ids (ascends_after None ids) refl)
    (all_tested (λ x. has g.nodes x) (Has g.nodes) ids (member_tested g.nodes))

pub node_set_tested : (g : LinkGraph) (ids : List ℕ) → IsTrue (is_node_set g ids) ↔ IsNodeSet g ids
node_set_tested g ids =
    let r = set_parts g ids in (
      (λ h. let p = r.0 h in record { ascends = p.0; nodes = p.1 }),
      (λ h. r.1 (h.ascends, h.nodes)),
    )

some_tested : (n : ℕ) → IsTrue (not (eqb n 0)) ↔ (0 < n)
some_tested zero = ((λ h. absurd (both_ways false refl h)), (λ l. absurd (omega arith)))
some_tested (suc n) = ((λ h. omega arith), (λ l. ap not (ne_eqb (suc n) 0 (omega arith))))

pub group_tested : (g : LinkGraph) (q : List ℕ) → IsTrue (is_group g q) ↔ IsGroup g q
group_tested g q =
    let r = and_tested (not (eqb (length q) 0)) (is_node_set g q) (some_tested (length q)) (node_set_tested g q) in (
      (λ h. let p = r.0 h in record { some_member = p.0; ascends = p.1.ascends; nodes = p.1.nodes }),
      (λ h. r.1 (h.some_member, record { ascends = h.ascends; nodes = h.nodes })),
    )

outside_tested : (s : List ℕ) (x : ℕ) → IsTrue (not (has s x)) ↔ (¬ Has s x)
outside_tested s x = not_tested (has s x) (member_tested s x)

pub survives_tested : (xs s : List ℕ) (x : ℕ) → IsTrue (survives xs s x) ↔ Survives xs s x
survives_tested xs s x = and_tested (has xs x) (not (has s x)) (member_tested xs x) (outside_tested s x)

-- each link of a ends in the side or in the cut
abbrev EndsWithin : LinkGraph → List ℕ → List ℕ → ℕ → Type 0
EndsWithin g side cut a = (b : ℕ) → Linked g a b → Has side b ⊎ Has cut b

within_tested : (g : LinkGraph) (side cut : List ℕ) (a : ℕ) → IsGraph g
    → IsTrue (ends_within g side cut a) ↔ EndsWithin g side cut a
within_tested g side cut a graph =
    let n = are_neighbours g a graph in
    let r = all_tested (λ b. has side b || has cut b) (λ b. Has side b ⊎ Has cut b) (neighbours_in g.links a g.nodes)
    (λ b. or_tested (has side b) (has cut b) (member_tested side b) (member_tested cut b)) in (
      (λ h b l. r.0 h b ((n.each b).1 l)),
      (λ h. r.1 (λ b k. h b ((n.each b).0 k))),
    )

pub cut_off_tested : (g : LinkGraph) (q : List ℕ) (c : Split) → IsGraph g → IsTrue (is_cut_off g q c) ↔ IsCutOff g q c
cut_off_tested g q c graph =
    let closed = all_tested (λ a. ends_within g c.side c.cut a) (EndsWithin g c.side c.cut) c.side
    (λ a. within_tested g c.side c.cut a graph) in
    let apart = and_tested (not (has c.side c.far)) (list_all (λ a. ends_within g c.side c.cut a) c.side)
    (outside_tested c.side c.far) closed in
    let holds = and_tested (has c.side c.near) _ (member_tested c.side c.near) apart in
    let off = and_tested (list_all (λ a. not (has c.cut a)) c.side) _
    (all_tested (λ a. not (has c.cut a)) (λ a. ¬ Has c.cut a) c.side (outside_tested c.cut)) holds in
    let set = and_tested (is_node_set g c.side) _ (node_set_tested g c.side) off in
    let far = and_tested (survives q c.cut c.far) _ (survives_tested q c.cut c.far) set in
    let near = and_tested (survives q c.cut c.near) _ (survives_tested q c.cut c.near) far in (
      (λ h.
          let p = near.0 h in
          record {
            near_survives = p.0;
            far_survives = p.1.0;
            side_ascends = p.1.1.0.ascends;
            side_survives = λ a k. (p.1.1.0.nodes a k, p.1.1.1.0 a k);
            near_inside = p.1.1.1.1.0;
            far_outside = p.1.1.1.1.1.0;
            closed = λ a b k l. p.1.1.1.1.1.1 a k b l;
          }),
      (λ h. near.1 (
        h.near_survives,
        (
          h.far_survives,
          (
            record { ascends = h.side_ascends; nodes = λ a k. (h.side_survives a k).0 },
            ((λ a k. (h.side_survives a k).1), (h.near_inside, (h.far_outside, λ a k b l. h.closed a b k l))),
          ),
        ),
      )),
    )

-- a list without a first item has no members
none_in : {X : Type 0} (xs : List X) (x : X) → is_none (slice_get xs 0) ≡ true → ¬ Has xs x
none_in [] x t h = h
none_in (y ∷ ys) x t h = let e : false ≡ true = t in absurd cc

no_first : {X : Type 0} (xs : List X) → ((x : X) → ¬ Has xs x) → is_none (slice_get xs 0) ≡ true
no_first [] none = refl
no_first (y ∷ ys) none = absurd (none y (inl refl))

-- there is no first unlinked pair exactly if every two members are linked
pub all_linked_tested : (g : LinkGraph) (q : List ℕ) → Ascends q → IsTrue (all_linked g q) ↔ AreAllLinked g q
all_linked_tested g q up =
    let pairs = pairs_after g [] q in
    let upward : is_none (slice_get pairs 0) ≡ true → (a b : ℕ) → Has q a → Has q b → a < b → Linked g a b =
    λ t a b h k l. elim (linked_or_not g a b) [
      | inl linked ↦ linked
      | inr n ↦ absurd (none_in pairs (a, b) t (after_complete g [] q a b up h k l n))
    ] in (
      (λ t a b h k n. elim (below_or_not a b) [
        | inl l ↦ upward t a b h k l
        | inr m ↦ linked_sym g b a (upward t b a k h (omega (arith, m, n)))
      ]),
      (λ all. no_first pairs (λ p h.
          let r = after_sound g [] q p up h in
          r.3 (all p.0 p.1 r.0 r.1 (λ e. let l = r.2 in omega (arith, l, e))))),
    )
  where
    below_or_not : (a b : ℕ) → (a < b) ⊎ (b ≤ a)
    below_or_not a b = elim (nat_lt a b) as (λ t. nat_lt a b ≡ t → (a < b) ⊎ (b ≤ a)) [
      | true ↦ λ on. inl (ltb-true a b on)
      | false ↦ λ off. inr (ltb-false a b off)
    ] refl

-- near and far are different
pub near_is_not_far : (g : LinkGraph) (q : List ℕ) (c : Split) → IsCutOff g q c → c.near ≢ c.far
near_is_not_far g q c off e = off.far_outside (subst (Has c.side) e off.near_inside)

-- near and far are not joined without the cut
pub cut_parts : (g : LinkGraph) (q : List ℕ) (c : Split) → IsCutOff g q c → ¬ Joined g c.cut c.near c.far
cut_parts g q c off j = off.far_outside (joined_keeps g c.cut c.side c.near c.far off.closed off.near_inside j)

-- a cut that separates near and far splits the group
pub cut_splits : (g : LinkGraph) (q : List ℕ) (c : Split) → IsNodeSet g c.cut → IsCutOff g q c → SplitsGroup g q c.cut
cut_splits g q c set off = record {
  set = set;
  a = c.near;
  b = c.far;
  a_survives = off.near_survives;
  b_survives = off.far_survives;
  differ = near_is_not_far g q c off;
  parted = cut_parts g q c off;
}
