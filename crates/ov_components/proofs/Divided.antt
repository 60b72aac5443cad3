-- The components so far, one more component, and all of them.
use Rattle.std.proofs.Common.{◌≡◌, ◌↔◌, ◌⊎◌, ℕ, ◌+◌, ◌<◌, ◌≤◌, List, [], ◌∷◌, ◌++◌, length, inl, inr}
use Rattle.std.proofs.Common.{refl, sym, ap, subst, arith, slice_index}
use Rattle.std.proofs.lemmas.Bool.{cases_eq}
use Rattle.ov_ids.specs.Members.{Has, Ordered}
use Rattle.ov_ids.proofs.Members.{has_or_not, has_append_left, has_append_right, has_append_cases, has_place, place_of}
use Rattle.ov_ids.proofs.Members.{all_from_members, all_member, ordered_at, same_ordered, same_ascending}
use Rattle.ov_graph.specs.Links.{LinkGraph, IsGraph}
use Rattle.ov_graph.specs.Joined.{Survives, Joined}
use Rattle.ov_graph.specs.Paths.{node_at}
use Rattle.ov_graph.specs.Row.{HasBit, picked}
use Rattle.ov_graph.proofs.BitRows.Bits.{bit_moved}
use Rattle.ov_graph.proofs.BitRows.Read.{has_picked, in_picked, ascends_picked, picked_at, next_picked}
use Rattle.ov_graph.proofs.EvenTest.Walks.{linked_sym, joined_self, joined_step, joined_trans, joined_sym, joined_end}
use Rattle.ov_components.specs.Components.{IsComponent, BeginsBelow, AreComponents}
use Rattle.ov_components.specs.Theorems.{OneDivision}
use Rattle.ov_components.specs.Code.Rows.{IsWhole, TakesComponent}

-- ---- one list of components

member_of : (component : List ℕ) → 0 < length component → (a : ℕ) × Has component a
member_of component l = (slice_index component 0, has_place component 0 0 l)

-- two components with one member in common are equal
same_component : (g : LinkGraph) (s p q : List ℕ) (a : ℕ) → IsComponent g s p → IsComponent g s q → Has p a → Has q a
    → p ≡ q
same_component g s p q a i j h k = same_ascending p q i.ascends j.ascends
    (λ x m. (j.joined a x k).1 ((i.joined a x h).0 m))
    (λ x m. (i.joined a x h).1 ((j.joined a x k).0 m))

-- each component of one list is in the other
in_other : (g : LinkGraph) (s : List ℕ) (ps qs : List (List ℕ)) → AreComponents g s ps → AreComponents g s qs
    → (p : List ℕ) → Has ps p → Has qs p
in_other g s ps qs i j p h =
    let is = i.each p h in
    let m = member_of p is.some_member in
    let a = m.0 in
    let there : Has p a = m.1 in
    let found = j.all a (joined_end g s a a ((is.joined a a there).0 there)) in
    let q = found.0 in
    let one : Has qs q = found.1 in
    let e : p ≡ q = same_component g s p q a is (j.each q one) there found.2 in
    subst (Has qs) (sym e) one

pub one_division : OneDivision
one_division g s ps qs i j =
    same_ordered BeginsBelow (λ p q l m. omega (arith, l, m)) ps qs i.order j.order (in_other g s ps qs i j)
    (in_other g s qs ps j i)

-- ---- the components so far

-- The components that begin at the nodes before place n, and the places that are left: those of the survivors that are
-- in no component yet
pub record IsDivided (g : LinkGraph) (s : List ℕ) (components : List (List ℕ)) (left : List ℕ) (n : ℕ) : Type 0 where
  pub each : (p : List ℕ) → Has components p → IsComponent g s p
  pub rest : (q : ℕ) → HasBit left q
      ↔ ((q < length g.nodes) × (¬ Has s (node_at g q)) × ((p : List ℕ) → Has components p → ¬ Has p (node_at g q)))
  pub order : Ordered BeginsBelow components
  pub past : (q : ℕ) → q < n → ¬ HasBit left q
  pub begins : (p : List ℕ) → Has components p → (k : ℕ) × (k < n) × (slice_index p 0 ≡ node_at g k)

pub divided_begun : (g : LinkGraph) (s left : List ℕ)
    → ((p : ℕ) → HasBit left p ↔ ((p < length g.nodes) × ¬ Has s (node_at g p))) → IsDivided g s [] left 0
divided_begun g s left bits = record {
  each = λ p h. absurd h;
  rest = λ q. (
    (λ h. let b = (bits q).0 h in (b.0, b.1, λ p k. absurd k)),
    (λ h. (bits q).1 (h.0, h.1)),
  );
  order = tt;
  past = λ q l. absurd (omega (arith, l));
  begins = λ p h. absurd h;
}

-- no survivor that is left is linked to one in a component
pub divided_whole : (g : LinkGraph) (s : List ℕ) (components : List (List ℕ)) (left : List ℕ) (n : ℕ)
    → IsDivided g s components left n → IsWhole g s left
divided_whole g s components left n d = record {
  survive = λ p h. ((d.rest p).0 h).1;
  closed = λ p q h below stays link.
      let b = (d.rest p).0 h in
      let out : (r : List ℕ) → Has components r → ¬ Has r (node_at g q) = λ r at has.
      let back = linked_sym g (node_at g p) (node_at g q) link in
      let i = d.each r at in
      let there : Survives g.nodes s (node_at g p) = (has_place g.nodes p 0 b.0, b.1) in
      let here : Survives g.nodes s (node_at g q) = (has_place g.nodes q 0 below, stays) in
      b.2 r at ((i.joined (node_at g q) (node_at g p) has).1
      (joined_step g s (node_at g q) (node_at g p) (node_at g p) back here
      (joined_self g s (node_at g p) there))) in
      (d.rest q).1 (below, stays, out);
}

-- nothing begins at a place that is not left
pub divided_past : (g : LinkGraph) (s : List ℕ) (components : List (List ℕ)) (left : List ℕ) (n : ℕ)
    → IsDivided g s components left n → ¬ HasBit left n → IsDivided g s components left (n + 1)
divided_past g s components left n d none = record {
  each = d.each;
  rest = d.rest;
  order = d.order;
  past = λ q l h. elim (cases_eq q n) [
    | inl e ↦ none (bit_moved left q n e h)
    | inr ne ↦ d.past q (omega (arith, l, ne)) h
  ];
  begins = λ p h. let b = d.begins p h in (b.0, let l = b.1 in omega (arith, l), b.2);
}

-- the nodes that a component's row picks are a component, which begins at the start
is_component : (g : LinkGraph) (s : List ℕ) (start : ℕ) (row : List ℕ) → IsGraph g
    → ((p : ℕ) → HasBit row p ↔ ((p < length g.nodes) × Joined g s (node_at g start) (node_at g p)))
    → HasBit row start → IsComponent g s (picked row 0 g.nodes)
is_component g s start row graph bits has =
    let below : start < length g.nodes = ((bits start).0 has).0 in
    let first : Has (picked row 0 g.nodes) (node_at g start) =
    in_picked row 0 g.nodes start below (bit_moved row start (0 + start) (omega arith) has) in
    let to : (x : ℕ) → Has (picked row 0 g.nodes) x → Joined g s (node_at g start) x = λ x h.
    let k = has_picked row 0 g.nodes x h in
    subst (Joined g s (node_at g start)) k.node
    ((bits k.place).0 (bit_moved row (0 + k.place) k.place (omega arith) k.bit)).1 in
    let from : (x : ℕ) → Joined g s (node_at g start) x → Has (picked row 0 g.nodes) x = λ x j.
    let at = place_of g.nodes x (joined_end g s (node_at g start) x j).0 in
    let r = at.0 in
    let l : r < length g.nodes = at.1 in
    let node : node_at g r ≡ x = at.2 in
    subst (Has (picked row 0 g.nodes)) node
    (in_picked row 0 g.nodes r l (bit_moved row r (0 + r) (omega arith)
    ((bits r).1 (l, subst (Joined g s (node_at g start)) (sym node) j)))) in
    record {
      some_member = some (picked row 0 g.nodes) (node_at g start) first;
      ascends = ascends_picked row 0 g.nodes graph.nodes_ascend;
      joined = λ a b h. (
        (λ k. joined_trans g s a (node_at g start) b (joined_sym g s (node_at g start) a (to a h)) (to b k)),
        (λ j. from b (joined_trans g s (node_at g start) a b (to a h) j)),
      );
    }
  where
    some : (xs : List ℕ) (x : ℕ) → Has xs x → 0 < length xs
    some [] x h = absurd h
    some (y ∷ ys) x h = omega arith

ordered_last : (components : List (List ℕ)) (last : List ℕ) → Ordered BeginsBelow components
    → ((p : List ℕ) → Has components p → BeginsBelow p last) → Ordered BeginsBelow (components ++ last ∷ [])
ordered_last [] last up each = (tt, tt)
ordered_last (p ∷ ps) last up each = (
  all_from_members (BeginsBelow p) (ps ++ last ∷ []) (λ q h. elim (has_append_cases ps (last ∷ []) q h) [
    | inl k ↦ all_member (BeginsBelow p) ps q up.0 k
    | inr k ↦ elim k [
      | inl e ↦ subst (BeginsBelow p) e (each p (inl refl))
      | inr m ↦ absurd m
    ]
  ]),
  ordered_last ps last up.1 (λ q h. each q (inr h)),
)

-- one component more
pub divided_more : (g : LinkGraph) (s : List ℕ) (components : List (List ℕ)) (left : List ℕ) (n : ℕ)
    (after row : List ℕ) → IsGraph g → IsDivided g s components left n → HasBit left n
    → TakesComponent g s left n after row
    → IsDivided g s (components ++ picked row 0 g.nodes ∷ []) after (n + 1)
divided_more g s components left n after row graph d has t =
    let component : List ℕ = picked row 0 g.nodes in
    let here = (d.rest n).0 has in
    let below : n < length g.nodes = here.0 in
    let survives : Survives g.nodes s (node_at g n) = (has_place g.nodes n 0 below, here.1) in
    let start : HasBit row n = (t.component n).1 (below, joined_self g s (node_at g n) survives) in
    let is : IsComponent g s component = is_component g s n row graph t.component start in
    let e = next_picked row g.nodes 0 n 0 (record {
      reached = omega arith;
      set = start;
      first = λ q k l h. d.past q l (t.within q h);
    }) below in
    let head : slice_index component 0 ≡ node_at g n = ap (λ (xs : List ℕ). slice_index xs 0) e in
    let cases : (P : List ℕ → Type 0) → ((p : List ℕ) → Has components p → P p) → P component
    → (p : List ℕ) → Has (components ++ component ∷ []) p → P p = λ P old new p h.
    elim (has_append_cases components (component ∷ []) p h) [
      | inl k ↦ old p k
      | inr k ↦ elim k [ inl same ↦ subst P same new | inr m ↦ absurd m ]
    ] in
    record {
      each = cases (IsComponent g s) d.each is;
      rest = λ q. (
        (λ h.
            let b = (t.left q).0 h in
            let r = (d.rest q).0 b.0 in (
              r.0,
              r.1,
              cases (λ (p : List ℕ). ¬ Has p (node_at g q)) r.2
                  (λ k. b.1 ((picked_at row g.nodes q graph.nodes_ascend r.0).0 k)),
            )),
        (λ h. (t.left q).1 (
          (d.rest q).1 (h.0, h.1, λ p k. h.2 p (has_append_left components (component ∷ []) p k)),
          (λ k. h.2 component (has_append_right components (component ∷ []) component (inl refl))
              ((picked_at row g.nodes q graph.nodes_ascend h.0).1 k)),
        )),
      );
      order = ordered_last components component d.order (λ p h.
          let b = d.begins p h in
          let k : ℕ = b.0 in
          let l : k < n = b.1 in
          let first : slice_index p 0 ≡ node_at g k = b.2 in
          let less : node_at g k < node_at g n =
          ordered_at (λ x y. x < y) g.nodes k n 0 graph.nodes_ascend l below in
          omega (arith, first, head, less));
      past = λ q l h.
          let b = (t.left q).0 h in
          elim (cases_eq q n) [
            | inl e ↦ b.1 (bit_moved row n q (sym e) start)
            | inr ne ↦ d.past q (omega (arith, l, ne)) b.0
          ];
      begins = cases (λ (p : List ℕ). (k : ℕ) × (k < n + 1) × (slice_index p 0 ≡ node_at g k))
          (λ p h. let b = d.begins p h in (b.0, let l = b.1 in omega (arith, l), b.2)) (n, omega arith, head);
    }

in_one_or_none : (components : List (List ℕ)) (x : ℕ)
    → ((p : List ℕ) × Has components p × Has p x) ⊎ ((p : List ℕ) → Has components p → ¬ Has p x)
in_one_or_none [] x = inr (λ p h. absurd h)
in_one_or_none (p ∷ ps) x = elim (has_or_not p x) [
  | inl h ↦ inl (p, inl refl, h)
  | inr n ↦ elim (in_one_or_none ps x) [
    | inl r ↦ inl (r.0, inr r.1, r.2)
    | inr none ↦ inr (λ q h k. elim h [ inl e ↦ n (subst (λ (r : List ℕ). Has r x) (sym e) k) | inr m ↦ none q m k ])
  ]
]

-- all components
pub divided_all : (g : LinkGraph) (s : List ℕ) (components : List (List ℕ)) (left : List ℕ) (n : ℕ)
    → IsDivided g s components left n → length g.nodes ≤ n → AreComponents g s components
divided_all g s components left n d end = record {
  each = d.each;
  all = λ a survives. elim (in_one_or_none components a) [
    | inl found ↦ found
    | inr none ↦
        let at = place_of g.nodes a survives.0 in
        let r : ℕ = at.0 in
        let below : r < length g.nodes = at.1 in
        let node : node_at g r ≡ a = at.2 in
        absurd (d.past r (omega (arith, below, end)) ((d.rest r).1 (
          below,
          (λ k. survives.1 (subst (Has s) node k)),
          (λ p h k. none p h (subst (Has p) node k)),
        )))
  ];
  order = d.order;
}
