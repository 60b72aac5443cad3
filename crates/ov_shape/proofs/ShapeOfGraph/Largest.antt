-- The largest of the components that were found so far.
use Rattle.std.proofs.Common.{◌≡◌, ◌∙◌, ◌↔◌, ◌⊎◌, ℕ, ◌+◌, ◌*◌, ◌<◌, ◌≤◌, List, [], length, slice_index}
use Rattle.std.proofs.Common.{inl, inr, sym, ap, subst, arith}
use Rattle.std.proofs.lemmas.Bool.{cases_lt, cases_eq}
use Rattle.ov_ids.specs.Members.{Has}
use Rattle.ov_ids.proofs.Members.{place_of, has_place, same_ascending, ordered_at}
use Rattle.ov_graph.specs.Links.{LinkGraph, IsGraph}
use Rattle.ov_graph.specs.Joined.{Joined}
use Rattle.ov_graph.specs.Paths.{node_at}
use Rattle.ov_graph.specs.Row.{HasBit, picked}
use Rattle.ov_graph.proofs.BitRows.Bits.{bit_moved}
use Rattle.ov_graph.proofs.BitRows.Read.{has_picked, in_picked, ascends_picked}
use Rattle.ov_graph.proofs.EvenTest.Walks.{joined_trans, joined_sym}
use Rattle.ov_graph.specs.Components.{IsComponent}
use Rattle.ov_shape.specs.Code.Found.{IsComponentSet, IsLargestFound}
use Rattle.ov_shape.proofs.ShapeOfGraph.Walks.{joined_node, joined_is_node}

-- what a row of a component picks is the component
pub component_of : (g : LinkGraph) (a : ℕ) (row : List ℕ) → IsGraph g → Has g.nodes a → IsComponentSet g a row
    → IsComponent g a (picked row 0 g.nodes)
component_of g a row graph node set_of = record {
  node = node;
  ascend = ascends_picked row 0 g.nodes graph.nodes_ascend;
  each = λ b. (
    (λ h.
        let k = has_picked row 0 g.nodes b h in
        let bit = bit_moved row (0 + k.place) k.place (omega arith) k.bit in
        subst (λ (z : ℕ). Joined g [] a z) k.node ((set_of k.place).0 bit).1),
    (λ j.
        let p = place_of g.nodes b (joined_is_node g a b j) in
        let bit = (set_of p.0).1 (p.1, subst (λ (z : ℕ). Joined g [] a z) (sym p.2) j) in
        subst (λ (z : ℕ). Has (picked row 0 g.nodes) z) p.2
        (in_picked row 0 g.nodes p.0 p.1 (bit_moved row p.0 (0 + p.0) (omega arith) bit))),
  );
}

-- joined nodes have one component
pub one_component : (g : LinkGraph) (a b : ℕ) (xs ys : List ℕ) → IsComponent g a xs → IsComponent g b ys
    → Joined g [] a b → xs ≡ ys
one_component g a b xs ys one two j =
    same_ascending xs ys one.ascend two.ascend
    (λ x h. (two.each x).1 (joined_trans g [] b a x (joined_sym g [] a b j) ((one.each x).0 h)))
    (λ x h. (one.each x).1 (joined_trans g [] a b x j ((two.each x).0 h)))

-- the component of a node whose bit is set has as many nodes as the row picks
pub as_many : (g : LinkGraph) (a q : ℕ) (row ys : List ℕ) → IsGraph g → Has g.nodes a → IsComponentSet g a row
    → HasBit row q → IsComponent g (node_at g q) ys → length ys ≡ length (picked row 0 g.nodes)
as_many g a q row ys graph node set_of bit is =
    ap (λ (zs : List ℕ). length zs)
    (sym (one_component g a (node_at g q) (picked row 0 g.nodes) ys (component_of g a row graph node set_of) is
    ((set_of q).0 bit).1))

-- a node's own bit is set in the row of its component
pub own_bit : (g : LinkGraph) (p : ℕ) (row : List ℕ) → p < length g.nodes → IsComponentSet g (node_at g p) row
    → HasBit row p
own_bit g p row l set_of = (set_of p).1 (l, joined_node g (node_at g p) (has_place g.nodes p 0 l))

-- of the components of the nodes that were seen, among them all before `place`, the row is that of the largest, whose
-- first node is at the place `first`
pub record IsBest (g : LinkGraph) (place : ℕ) (seen row : List ℕ) (count : ℕ) : Type 0 where
  pub first : ℕ
  pub first_below : first < place
  pub set_of : IsComponentSet g (node_at g first) row
  pub counted : count ≡ length (picked row 0 g.nodes)
  pub all_seen : (q : ℕ) → q < place → HasBit seen q
  pub within : (q : ℕ) → HasBit seen q → q < length g.nodes
  pub most : (q : ℕ) → HasBit seen q → (ys : List ℕ) → IsComponent g (node_at g q) ys → length ys ≤ count
  pub least : (q : ℕ) → HasBit seen q → (ys : List ℕ) → IsComponent g (node_at g q) ys → length ys ≡ count → first ≤ q

pub best_begun : (g : LinkGraph) (row : List ℕ) (count : ℕ) → IsGraph g → 0 < length g.nodes
    → IsComponentSet g (node_at g 0) row → count ≡ length (picked row 0 g.nodes) → IsBest g 1 row row count
best_begun g row count graph some set_of counted = record {
  first = 0;
  first_below = omega arith;
  set_of = set_of;
  counted = counted;
  all_seen = λ q l.
      let e : 0 ≡ q = omega (arith, l) in
      subst (λ (i : ℕ). HasBit row i) e (own_bit g 0 row some set_of);
  within = λ q h. ((set_of q).0 h).0;
  most = λ q h ys is.
      let e = as_many g (node_at g 0) q row ys graph (has_place g.nodes 0 0 some) set_of h is in
      omega (arith, e, counted);
  least = λ q h ys is e. omega arith;
}

-- the next place was seen
pub best_seen : (g : LinkGraph) (place : ℕ) (seen row : List ℕ) (count : ℕ) → HasBit seen place
    → IsBest g place seen row count → IsBest g (place + 1) seen row count
best_seen g place seen row count h best = record {
  first = best.first;
  first_below = let l = best.first_below in omega (arith, l);
  set_of = best.set_of;
  counted = best.counted;
  all_seen = λ q l. elim (cases_eq q place) [
    | inl e ↦ subst (λ (i : ℕ). HasBit seen i) (sym e) h
    | inr ne ↦ best.all_seen q (omega (arith, l, ne))
  ];
  within = best.within;
  most = best.most;
  least = best.least;
}

-- a new component, and the row of all that was seen then
pub record IsNew (g : LinkGraph) (place : ℕ) (seen all row : List ℕ) (count : ℕ) : Type 0 where
  pub graph : IsGraph g
  pub below : place < length g.nodes
  pub unseen : ¬ HasBit seen place
  pub set_of : IsComponentSet g (node_at g place) row
  pub counted : count ≡ length (picked row 0 g.nodes)
  pub each : (q : ℕ) → q < length g.nodes → HasBit all q ↔ (HasBit seen q ⊎ HasBit row q)
  pub within : (q : ℕ) → HasBit all q → q < length g.nodes

pub new_of : (g : LinkGraph) (place : ℕ) (seen all row old : List ℕ) (count most words : ℕ) → IsGraph g
    → length g.nodes ≤ 64 * words → place < length g.nodes → (¬ HasBit seen place) → IsBest g place seen old most
    → IsComponentSet g (node_at g place) row → count ≡ length (picked row 0 g.nodes)
    → ((q : ℕ) → HasBit all q ↔ ((q < 64 * words) × (HasBit seen q ⊎ HasBit row q)))
    → IsNew g place seen all row count
new_of g place seen all row old count most words graph enough below unseen best set_of counted each = record {
  graph = graph;
  below = below;
  unseen = unseen;
  set_of = set_of;
  counted = counted;
  each = λ q l. ((λ h. ((each q).0 h).1), (λ h. (each q).1 (omega (arith, l, enough), h)));
  within = λ q h. elim ((each q).0 h).1 [ inl k ↦ best.within q k | inr k ↦ ((set_of q).0 k).0 ];
}

all_seen_more : (g : LinkGraph) (place : ℕ) (seen all row old : List ℕ) (count most : ℕ)
    → IsNew g place seen all row count → IsBest g place seen old most → (q : ℕ) → q < place + 1 → HasBit all q
all_seen_more g place seen all row old count most new best q l =
    let b = new.below in
    (new.each q (omega (arith, l, b))).1 (elim (cases_eq q place) [
      | inl e ↦ inr (subst (λ (i : ℕ). HasBit row i) (sym e) (own_bit g place row new.below new.set_of))
      | inr ne ↦ inl (best.all_seen q (omega (arith, l, ne)))
    ])

as_many_new : (g : LinkGraph) (place : ℕ) (seen all row : List ℕ) (count q : ℕ) (ys : List ℕ)
    → IsNew g place seen all row count → HasBit row q → IsComponent g (node_at g q) ys → length ys ≡ count
as_many_new g place seen all row count q ys new h is =
    as_many g (node_at g place) q row ys new.graph (has_place g.nodes place 0 new.below) new.set_of h is
    ∙ sym new.counted

-- it is larger
pub best_larger : (g : LinkGraph) (place : ℕ) (seen all row old : List ℕ) (count most : ℕ)
    → IsNew g place seen all row count → IsBest g place seen old most → most < count
    → IsBest g (place + 1) all row count
best_larger g place seen all row old count most new best larger = record {
  first = place;
  first_below = omega arith;
  set_of = new.set_of;
  counted = new.counted;
  all_seen = all_seen_more g place seen all row old count most new best;
  within = new.within;
  most = λ q h ys is. elim ((new.each q (new.within q h)).0 h) [
    | inl k ↦ let l = best.most q k ys is in omega (arith, l, larger)
    | inr k ↦ let e = as_many_new g place seen all row count q ys new k is in omega (arith, e)
  ];
  least = λ q h ys is e. elim (cases_lt q place) [
    | inl l ↦ let m = best.most q (best.all_seen q l) ys is in absurd (omega (arith, m, e, larger))
    | inr ge ↦ ge
  ];
}

-- it is not larger
pub best_stays : (g : LinkGraph) (place : ℕ) (seen all row old : List ℕ) (count most : ℕ)
    → IsNew g place seen all row count → IsBest g place seen old most → count ≤ most
    → IsBest g (place + 1) all old most
best_stays g place seen all row old count most new best not_larger =
    let f = best.first_below in record {
      first = best.first;
      first_below = omega (arith, f);
      set_of = best.set_of;
      counted = best.counted;
      all_seen = all_seen_more g place seen all row old count most new best;
      within = new.within;
      most = λ q h ys is. elim ((new.each q (new.within q h)).0 h) [
        | inl k ↦ best.most q k ys is
        | inr k ↦ let e = as_many_new g place seen all row count q ys new k is in omega (arith, e, not_larger)
      ];
      least = λ q h ys is e. elim (cases_lt q place) [
        | inl l ↦ best.least q (best.all_seen q l) ys is e
        | inr ge ↦ omega (arith, ge, f)
      ];
    }

in_order : (g : LinkGraph) (p q : ℕ) → IsGraph g → p ≤ q → q < length g.nodes → node_at g p ≤ node_at g q
in_order g p q graph l m = elim (cases_eq p q) [
  | inl e ↦ let f : node_at g p ≡ node_at g q = ap (λ (i : ℕ). node_at g i) e in omega (arith, f)
  | inr ne ↦
      let r : slice_index g.nodes p < slice_index g.nodes q =
      ordered_at (λ x y. x < y) g.nodes p q 0 graph.nodes_ascend (omega (arith, l, ne)) m in
      omega (arith, r)
]

-- at the end it is the largest of all
pub best_of_all : (g : LinkGraph) (place : ℕ) (seen row : List ℕ) (count : ℕ) → IsGraph g → length g.nodes ≤ place
    → IsBest g place seen row count → IsLargestFound g row count
best_of_all g place seen row count graph end best =
    let own : IsComponent g (node_at g best.first) (picked row 0 g.nodes) =
    component_of g (node_at g best.first) row graph first_node best.set_of in record {
      first = node_at g best.first;
      node = first_node;
      set_of = best.set_of;
      counted = best.counted;
      largest = record {
        first = node_at g best.first;
        component = own;
        most = λ b ys is.
            let p = place_of g.nodes b is.node in
            let l = p.1 in
            let k = best.counted in
            let m = best.most p.0 (best.all_seen p.0 (omega (arith, l, end))) ys
            (subst (λ (z : ℕ). IsComponent g z ys) (sym p.2) is) in
            omega (arith, m, k);
        least = λ b ys is e.
            let p = place_of g.nodes b is.node in
            let l = p.1 in
            let at = p.2 in
            let k = best.counted in
            let m = best.least p.0 (best.all_seen p.0 (omega (arith, l, end))) ys
            (subst (λ (z : ℕ). IsComponent g z ys) (sym p.2) is) (omega (arith, e, k)) in
            let o = in_order g best.first p.0 graph m l in
            omega (arith, o, at);
      };
    }
  where
    seen_first : best.first < length g.nodes
    seen_first = best.within best.first (best.all_seen best.first best.first_below)

    first_node : Has g.nodes (node_at g best.first)
    first_node = has_place g.nodes best.first 0 seen_first
