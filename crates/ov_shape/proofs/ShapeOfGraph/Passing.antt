-- The distances from one node of a component after another.
use Rattle.std.proofs.Common.{◌≡◌, ℕ, ◌+◌, ◌*◌, ◌<◌, ◌≤◌, List, ◌∷◌, length, drop, max, inl, inr}
use Rattle.std.proofs.Common.{refl, sym, subst, arith}
use Rattle.std.proofs.lemmas.Bool.{cases_lt, cases_eq}
use Rattle.ov_ids.specs.Members.{Has}
use Rattle.ov_ids.proofs.Members.{place_of, has_place}
use Rattle.ov_graph.specs.Links.{LinkGraph, IsGraph}
use Rattle.ov_graph.specs.Paths.{node_at}
use Rattle.ov_graph.specs.Row.{HasBit, IsFirstFrom, picked}
use Rattle.ov_graph.proofs.BitRows.Read.{picked_at, next_picked, none_picked}
use Rattle.ov_shape.specs.Sums.{IsSum}
use Rattle.ov_shape.specs.Distances.{IsDistance}
use Rattle.ov_graph.specs.Components.{IsComponent}
use Rattle.ov_shape.specs.ShortestPaths.{IsDistanceSum, IsLongest}
use Rattle.ov_shape.specs.Code.Found.{IsFound, IsLargestFound}
use Rattle.ov_shape.specs.declared.layered_search.Found.{Found}
use Rattle.ov_shape.proofs.ShapeOfGraph.Sums.{sum_at, GoesOn, goes_begun, goes_more, goes_done}
use Rattle.ov_shape.proofs.ShapeOfGraph.Largest.{component_of, one_component}
use Rattle.ov_shape.proofs.ShapeOfGraph.Walks.{distance_self, joined_by, joined_node, joined_is_node}

-- the sum of the distances from one node to the nodes of xs
abbrev pub Spans : LinkGraph → List ℕ → ℕ → ℕ → Type 0
Spans g xs a n = IsSum (IsDistance g a) xs n

-- the distances from the nodes at places below `from`: their sum, and the largest one
pub record IsPassing (g : LinkGraph) (row : List ℕ) (from total far : ℕ) : Type 0 where
  pub sum : GoesOn (Spans g (picked row 0 g.nodes)) (picked row 0 g.nodes) (picked row from (drop from g.nodes)) total
  pub a : ℕ
  pub b : ℕ
  pub a_within : Has (picked row 0 g.nodes) a
  pub b_within : Has (picked row 0 g.nodes) b
  pub reached : IsDistance g a b far
  pub most : (p y e : ℕ) → p < from → HasBit row p → IsDistance g (node_at g p) y e → e ≤ far
  pub few : total ≤ from * (32768 * 32768)

own : (g : LinkGraph) (row : List ℕ) (count : ℕ) → IsGraph g → (f : IsLargestFound g row count)
    → Has (picked row 0 g.nodes) f.first
own g row count graph f = ((component_of g f.first row graph f.node f.set_of).each f.first).1
    (joined_node g f.first f.node)

pub passing_begun : (g : LinkGraph) (row : List ℕ) (count : ℕ) → IsGraph g → IsLargestFound g row count
    → IsPassing g row 0 0 0
passing_begun g row count graph f = record {
  sum = goes_begun (Spans g (picked row 0 g.nodes)) (picked row 0 g.nodes);
  a = f.first;
  b = f.first;
  a_within = own g row count graph f;
  b_within = own g row count graph f;
  reached = distance_self g f.first;
  most = λ p y e l h d. absurd (omega (arith, l));
  few = omega arith;
}

-- what the search from the next node found
pub passing_more : {W : ℕ} (g : LinkGraph) (row : List ℕ) (count from p total far : ℕ) (f : Found W) → IsGraph g
    → IsLargestFound g row count → IsFirstFrom row from p → IsFound g (node_at g p) f → IsPassing g row from total far
    → IsPassing g row (p + 1) (total + f.total) (max far f.far)
passing_more g row count from p total far f graph is first found before =
    let whole = picked row 0 g.nodes in
    let node : Has g.nodes (node_at g p) = has_place g.nodes p 0 within in
    let one : IsComponent g is.first whole = component_of g is.first row graph is.node is.set_of in
    let two : IsComponent g (node_at g p) (picked f.places 0 g.nodes) =
    component_of g (node_at g p) f.places graph node found.places in
    let same : picked f.places 0 g.nodes ≡ whole =
    sym (one_component g is.first (node_at g p) whole (picked f.places 0 g.nodes) one two
    ((is.set_of p).0 first.set).1) in
    let spans : Spans g whole (node_at g p) f.total =
    sum_at (IsDistance g (node_at g p)) (picked f.places 0 g.nodes) whole f.total f.total same refl found.total in
    let next : picked row from (drop from g.nodes) ≡ node_at g p ∷ picked row (p + 1) (drop (p + 1) g.nodes) =
    next_picked row g.nodes from p 0 first within in
    let sum = goes_more (Spans g whole) whole (picked row from (drop from g.nodes))
    (picked row (p + 1) (drop (p + 1) g.nodes)) (node_at g p) f.total total next spans before.sum in
    let ends = joined_by g f.far (node_at g p) found.farthest graph node found.reached.walk in
    let here : Has whole (node_at g p) = subst (λ (xs : List ℕ). Has xs (node_at g p)) same
    ((two.each (node_at g p)).1 (joined_node g (node_at g p) node)) in
    let there : Has whole found.farthest = subst (λ (xs : List ℕ). Has xs found.farthest) same
    ((two.each found.farthest).1 ends) in
    let most : (q y e : ℕ) → q < p + 1 → HasBit row q → IsDistance g (node_at g q) y e → e ≤ max far f.far =
    λ q y e l h d.
    elim (cases_lt q from) [
      | inl k ↦ let m = before.most q y e k h d in omega (arith, m)
      | inr ge ↦ elim (cases_eq q p) [
        | inl s ↦ let m = found.most y e (subst (λ (i : ℕ). IsDistance g (node_at g i) y e) s d) in omega (arith, m)
        | inr ne ↦ absurd (first.first q ge (omega (arith, l, ne)) h)
      ]
    ] in
    let few : total + f.total ≤ (p + 1) * (32768 * 32768) =
    let a = before.few in let b = found.few in let c = first.reached in omega (arith, a, b, c) in
    elim (cases_lt far f.far) [
      | inl l ↦
          let e : f.far ≡ max far f.far = omega (arith, l) in
          record {
            sum = sum;
            a = node_at g p;
            b = found.farthest;
            a_within = here;
            b_within = there;
            reached = subst (λ (i : ℕ). IsDistance g (node_at g p) found.farthest i) e found.reached;
            most = most;
            few = few;
          }
      | inr ge ↦
          let e : far ≡ max far f.far = omega (arith, ge) in
          record {
            sum = sum;
            a = before.a;
            b = before.b;
            a_within = before.a_within;
            b_within = before.b_within;
            reached = subst (λ (i : ℕ). IsDistance g before.a before.b i) e before.reached;
            most = most;
            few = few;
          }
    ]
  where
    within : p < length g.nodes
    within = ((is.set_of p).0 first.set).0

-- after the last node
pub passing_sum : (g : LinkGraph) (row : List ℕ) (from total far : ℕ) → ((q : ℕ) → from ≤ q → ¬ HasBit row q)
    → IsPassing g row from total far → IsDistanceSum g (picked row 0 g.nodes) total
passing_sum g row from total far none all =
    goes_done (Spans g (picked row 0 g.nodes)) (picked row 0 g.nodes) (picked row from (drop from g.nodes)) total
    (none_picked row from (drop from g.nodes) none) all.sum

pub passing_far : (g : LinkGraph) (row : List ℕ) (count from total far : ℕ) → IsGraph g → IsLargestFound g row count
    → ((q : ℕ) → from ≤ q → ¬ HasBit row q) → IsPassing g row from total far
    → IsLongest g (picked row 0 g.nodes) far
passing_far g row count from total far graph is none all = record {
  a = all.a;
  b = all.b;
  a_within = all.a_within;
  b_within = all.b_within;
  reached = all.reached;
  most = λ x y e h k d.
      let one = component_of g is.first row graph is.node is.set_of in
      let p = place_of g.nodes x (joined_is_node g is.first x ((one.each x).0 h)) in
      let bit : HasBit row p.0 = (picked_at row g.nodes p.0 graph.nodes_ascend p.1).0
      (subst (λ (z : ℕ). Has (picked row 0 g.nodes) z) (sym p.2) h) in
      let below : p.0 < from = elim (cases_lt p.0 from) [ inl l ↦ l | inr ge ↦ absurd (none p.0 ge bit) ] in
      all.most p.0 y e below bit (subst (λ (z : ℕ). IsDistance g z y e) (sym p.2) d);
}
