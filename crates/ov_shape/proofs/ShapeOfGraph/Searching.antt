-- A search from a node, layer by layer.
use Rattle.std.proofs.Common.{◌≡◌, ◌∙◌, ◌↔◌, ◌⊎◌, ℕ, suc, ◌+◌, ◌*◌, ◌<◌, ◌≤◌, List, [], ◌∷◌, length, drop, get_or}
use Rattle.std.proofs.Common.{inl, inr, refl, sym, ap, subst, arith}
use Rattle.std.proofs.Math.Nat.{mul-le-mul_left}
use Rattle.ov_ids.specs.Members.{Has}
use Rattle.ov_graph.specs.Links.{LinkGraph, IsGraph}
use Rattle.ov_graph.specs.Paths.{node_at}
use Rattle.ov_graph.specs.Row.{HasBit, IsFirstFrom, picked}
use Rattle.ov_graph.proofs.BitRows.Bits.{bit_moved}
use Rattle.ov_graph.proofs.BitRows.Read.{in_picked, next_picked, none_picked}
use Rattle.ov_shape.specs.Sums.{IsSum}
use Rattle.ov_shape.specs.Distances.{IsDistance}
use Rattle.ov_shape.specs.Code.Found.{IsFound, IsOfNodes}
use Rattle.ov_shape.specs.declared.layered_search.Found.{Found}
use Rattle.ov_shape.proofs.ShapeOfGraph.Sums.{sum_at}
use Rattle.ov_shape.proofs.ShapeOfGraph.Counts.{IsParted, some_bit, few_picked, picked_same, count_parted, sum_parted}
use Rattle.ov_shape.proofs.ShapeOfGraph.Layers.{IsReached, IsLayer, IsNext, next_layer, next_reached, next_apart}
use Rattle.ov_shape.proofs.ShapeOfGraph.Layers.{reached_all, far_most, first_reached, first_layer}
use Rattle.ov_shape.proofs.ShapeOfGraph.Walks.{distance_self}

-- what was found so far: all that is reached by `far` links or fewer, and the layer at this distance
pub record IsSearching (g : LinkGraph) (a : ℕ) (front row : List ℕ) (count total far : ℕ) : Type 0 where
  pub reached : IsReached g a far row
  pub layer : IsLayer g a far front
  pub some : (q : ℕ) × HasBit front q
  pub counted : count ≡ length (picked row 0 g.nodes)
  pub sum : IsSum (IsDistance g a) (picked row 0 g.nodes) total
  pub near : far < count
  pub few : total ≤ 32768 * count

alone_picked : (g : LinkGraph) (p : ℕ) (row : List ℕ) → p < length g.nodes → ((q : ℕ) → HasBit row q ↔ q ≡ p)
    → picked row 0 g.nodes ≡ node_at g p ∷ []
alone_picked g p row l one =
    let first : IsFirstFrom row 0 p = record {
      reached = omega arith;
      set = (one p).1 refl;
      first = λ q m k h. let e = (one q).0 h in omega (arith, e, k);
    } in
    let none : picked row (p + 1) (drop (p + 1) g.nodes) ≡ [] = none_picked row (p + 1) (drop (p + 1) g.nodes)
    (λ q m h. let e = (one q).0 h in omega (arith, e, m)) in
    next_picked row g.nodes 0 p 0 first l ∙ ap (λ (xs : List ℕ). node_at g p ∷ xs) none

pub searching_begun : (g : LinkGraph) (p : ℕ) (row : List ℕ) → IsGraph g → p < length g.nodes
    → ((q : ℕ) → HasBit row q ↔ q ≡ p) → IsSearching g (node_at g p) row row 1 0 0
searching_begun g p row graph l one =
    let e = alone_picked g p row l one in
    let s : IsSum (IsDistance g (node_at g p)) (node_at g p ∷ []) 0 =
    (0, 0, distance_self g (node_at g p), refl, refl) in
    let n : 1 ≡ length (picked row 0 g.nodes) = ap (λ (xs : List ℕ). length xs) (sym e) in
    record {
      reached = first_reached g p row graph l one;
      layer = first_layer g p row graph l one;
      some = (p, (one p).1 refl);
      counted = n;
      sum = sum_at (IsDistance g (node_at g p)) (node_at g p ∷ []) (picked row 0 g.nodes) 0 0 (sym e) refl s;
      near = omega arith;
      few = omega arith;
    }

-- the next layer, and the row of all that is reached with it
pub record IsStep (g : LinkGraph) (front row next all : List ℕ) (more : ℕ) : Type 0 where
  pub graph : IsGraph g
  pub small : length g.nodes ≤ 32768
  pub is_next : IsNext g front row next
  pub counted : more ≡ length (picked next 0 g.nodes)
  pub each : (q : ℕ) → q < length g.nodes → HasBit all q ↔ (HasBit row q ⊎ HasBit next q)
  pub within : (q : ℕ) → HasBit all q → q < length g.nodes

-- a layer is of nodes
pub front_within : (g : LinkGraph) (a : ℕ) (front row : List ℕ) (count total far : ℕ)
    → IsSearching g a front row count total far → IsOfNodes g front
front_within g a front row count total far s q h = ((s.layer q).0 h).0

-- a count of bits, for every list of nodes that has one for each
abbrev pub IsCountOf : List ℕ → ℕ → ℕ → Type 0
IsCountOf row words n = (xs : List ℕ) → ((q : ℕ) → HasBit row q → q < length xs) → length xs ≤ 64 * words
    → n ≡ length (picked row 0 xs)

pub next_within : (g : LinkGraph) (front row next : List ℕ) → IsNext g front row next → IsOfNodes g next
next_within g front row next is_next q h = ((is_next q).0 h).0.within

pub step_of : (g : LinkGraph) (a : ℕ) (front row next all : List ℕ) (count total far more words : ℕ) → IsGraph g
    → length g.nodes ≤ 32768 → length g.nodes ≤ 64 * words → IsSearching g a front row count total far
    → IsNext g front row next → IsCountOf next words more
    → ((q : ℕ) → HasBit all q ↔ (HasBit row q ⊎ HasBit next q)) → IsStep g front row next all more
step_of g a front row next all count total far more words graph small enough s is_next counted each = record {
  graph = graph;
  small = small;
  is_next = is_next;
  counted = counted g.nodes (next_within g front row next is_next) enough;
  each = λ q l. each q;
  within = λ q h. elim ((each q).0 h) [
    | inl k ↦ ((s.reached q).0 k).0
    | inr k ↦ next_within g front row next is_next q k
  ];
}

parted : (g : LinkGraph) (a : ℕ) (front row next all : List ℕ) (count total far more : ℕ)
    → IsSearching g a front row count total far → IsStep g front row next all more → IsParted row next all
parted g a front row next all count total far more s step = record {
  each = λ q. (
    (λ h. (step.each q (step.within q h)).0 h),
    (λ h. elim h [
      | inl k ↦ (step.each q ((s.reached q).0 k).0).1 (inl k)
      | inr k ↦ (step.each q ((layer q).0 k).0).1 (inr k)
    ]),
  );
  apart = next_apart g front row next step.is_next;
}
  where
    layer : IsLayer g a (suc far) next
    layer = next_layer g a far front row next step.graph s.reached s.layer step.is_next

-- no more nodes are found than there are
pub count_fits : (g : LinkGraph) (a : ℕ) (front row next all : List ℕ) (count total far more : ℕ)
    → IsSearching g a front row count total far → IsStep g front row next all more → count + more ≤ length g.nodes
count_fits g a front row next all count total far more s step =
    let e = count_parted row next all 0 g.nodes (parted g a front row next all count total far more s step) in
    let l = few_picked all 0 g.nodes in
    let m = s.counted in
    let n = step.counted in
    omega (arith, e, l, m, n)

-- the sum of the distances stays small
pub total_fits : (g : LinkGraph) (a : ℕ) (front row next all : List ℕ) (count total far more : ℕ)
    → IsSearching g a front row count total far → IsStep g front row next all more
    → total + (far + 1) * more ≤ 32768 * (count + more)
total_fits g a front row next all count total far more s step =
    let l = few_picked row 0 g.nodes in
    let m = s.counted in
    let n = s.near in
    let k = s.few in
    let small = step.small in
    let bound : far + 1 ≤ 32768 = omega (arith, l, m, n, small) in
    let product = mul-le-mul_left more bound in
    omega (arith, k, product)

pub searching_more : (g : LinkGraph) (a : ℕ) (front row next all : List ℕ) (count total far more : ℕ)
    → IsSearching g a front row count total far → IsStep g front row next all more → 0 < more
    → IsSearching g a next all (count + more) (total + (far + 1) * more) (far + 1)
searching_more g a front row next all count total far more s step some =
    let e : suc far ≡ far + 1 = omega arith in
    let layer = next_layer g a far front row next step.graph s.reached s.layer step.is_next in
    let parts = parted g a front row next all count total far more s step in
    let reached = next_reached g a far row next all s.reached layer parts in
    let number = count_parted row next all 0 g.nodes parts in
    let m = s.counted in
    let n = step.counted in
    let near = s.near in
    let gives : (k : ℕ) → k < length g.nodes → HasBit next (0 + k) → IsDistance g a (get_or g.nodes k 0) (far + 1) =
    λ k l h.
    let d = (layer k).0 (bit_moved next (0 + k) k (omega arith) h) in
    subst (λ (i : ℕ). IsDistance g a (node_at g k) i) e d.1 in
    let sum = sum_parted (IsDistance g a) row next all (far + 1) 0 g.nodes total parts gives s.sum in
    let same : total + (far + 1) * length (picked next 0 g.nodes) ≡ total + (far + 1) * more =
    ap (λ (i : ℕ). total + (far + 1) * i) (sym n) in
    record {
      reached = subst (λ (i : ℕ). IsReached g a i all) e reached;
      layer = subst (λ (i : ℕ). IsLayer g a i next) e layer;
      some = some_bit next g.nodes (omega (arith, some, n));
      counted = omega (arith, number, m, n);
      sum = sum_at (IsDistance g a) (picked all 0 g.nodes) (picked all 0 g.nodes)
          (total + (far + 1) * length (picked next 0 g.nodes)) (total + (far + 1) * more) refl same sum;
      near = omega (arith, near, some);
      few = total_fits g a front row next all count total far more s step;
    }

has_some : (xs : List ℕ) (x : ℕ) → Has xs x → 0 < length xs
has_some [] x h = absurd h
has_some (y ∷ ys) x h = omega arith

pub searching_ended : {W : ℕ} (g : LinkGraph) (a : ℕ) (front row next : List ℕ) (f : Found W) → IsGraph g
    → Has g.nodes a → length g.nodes ≤ 32768 → IsSearching g a front row f.count f.total f.far → IsNext g front row next
    → ((q : ℕ) → HasBit f.places q ↔ (HasBit row q ⊎ HasBit next q)) → 0 ≡ length (picked next 0 g.nodes)
    → IsFound g a f
searching_ended g a front row next f graph node small s is_next each none =
    let layer = next_layer g a f.far front row next graph s.reached s.layer is_next in
    let empty : (q : ℕ) → ¬ HasBit next q = λ q h.
    let l = ((layer q).0 h).0 in
    let m = has_some (picked next 0 g.nodes) (get_or g.nodes q 0)
    (in_picked next 0 g.nodes q l (bit_moved next q (0 + q) (omega arith) h)) in
    omega (arith, none, m) in
    let same : (q : ℕ) → HasBit row q ↔ HasBit f.places q = λ q. (
      (λ h. (each q).1 (inl h)),
      (λ h. elim ((each q).0 h) [ inl k ↦ k | inr k ↦ absurd (empty q k) ]),
    ) in
    let e = picked_same row f.places 0 g.nodes same in
    let all = reached_all g a f.far row next graph node s.reached layer empty in
    let l = few_picked row 0 g.nodes in
    let m = s.counted in
    let k = s.few in
    record {
      places = λ q. ((λ h. (all q).0 ((same q).1 h)), (λ j. (same q).0 ((all q).1 j)));
      count = s.counted ∙ ap (λ (xs : List ℕ). length xs) e;
      total = sum_at (IsDistance g a) (picked row 0 g.nodes) (picked f.places 0 g.nodes) f.total f.total e refl s.sum;
      farthest = node_at g s.some.0;
      reached = ((s.layer s.some.0).0 s.some.1).1;
      most = far_most g a f.far row next graph node s.reached layer empty;
      few = omega (arith, l, m, k, small);
    }
