-- The common neighbours of two nodes, and degrees.
use Rattle.std.proofs.Common.{◌≡◌, ◌∙◌, ◌↔◌, ℕ, suc, ◌+◌, ◌*◌, ◌<◌, ◌≤◌, List, [], ◌∷◌, ◌++◌, length, length-append}
use Rattle.std.proofs.Common.{◌-◌, drop, slice_index, inl, inr, refl, sym, ap, subst, arith, IsPermutation}
use Rattle.std.proofs.lemmas.List.Sorted.{IsNonDecreasingBy-from_sort}
use Rattle.std.specs.List.Sorted.{IsSortedByKey}
use Rattle.std.specs.Ordering.{nat_cmp}
use Rattle.std.proofs.lemmas.Bool.{cases_lt, cases_eq}
use Rattle.std.proofs.lemmas.List.{get_or_append_left}
use Rattle.std.proofs.Math.Nat.{mul-suc}
use Rattle.std.proofs.Math.Seq.{drop-cons, get_or-append_seam}
use Rattle.ov_ids.specs.Members.{Has, Ascends}
use Rattle.ov_ids.proofs.Members.{has_append_left, has_append_right, has_append_cases, ordered_at, place_of}
use Rattle.ov_graph.specs.Links.{LinkGraph, IsGraph, Linked}
use Rattle.ov_graph.specs.Neighbours.{IsFirst, HoldsNoMore, IsWithin}
use Rattle.ov_graph.specs.Paths.{node_at}
use Rattle.ov_graph.specs.Row.{HasBit, IsFirstFrom, picked}
use Rattle.ov_graph.proofs.BitRows.Bits.{bit_moved}
use Rattle.ov_graph.proofs.BitRows.Read.{in_picked, ascends_picked, next_picked, are_neighbours, ordered_append}
use Rattle.ov_graph.proofs.EvenTest.Filtered.{linked_node}
use Rattle.ov_graph.proofs.GraphValues.OneGraph.{linked_differ}
use Rattle.ov_shape.specs.Clustering.{HaveCommon}
use Rattle.ov_shape.specs.Degrees.{IsDegree, AreDegrees, IsQuartile, quarters}
use Rattle.ov_shape.specs.Code.Found.{IsNeighbourSet, IsOfNodes}
use Rattle.ov_shape.proofs.ShapeOfGraph.Sums.{GoesOn, goes_more}
use Rattle.ov_shape.proofs.ShapeOfGraph.Subsets.{shorter}
use Rattle.ov_shape.proofs.ShapeOfGraph.Searching.{IsCountOf}

-- a common neighbour at a place below `after`: a neighbour of the node at place p that is in the set
pub record IsCommonBelow (g : LinkGraph) (p : ℕ) (set : List ℕ) (after c : ℕ) : Type 0 where
  pub place : ℕ
  pub below : place < after
  pub within : IsWithin g p set place
  pub node : node_at g place ≡ c

-- the n common neighbours at places below `after`
pub record AreCommonBelow (g : LinkGraph) (p : ℕ) (set : List ℕ) (after n : ℕ) : Type 0 where
  pub found : List ℕ
  pub ascend : Ascends found
  pub each : (c : ℕ) → Has found c ↔ IsCommonBelow g p set after c
  pub count : length found ≡ n

pub common_begun : (g : LinkGraph) (p : ℕ) (set : List ℕ) → AreCommonBelow g p set 0 0
common_begun g p set = record {
  found = [];
  ascend = tt;
  each = λ c. ((λ h. absurd h), (λ b. let l = b.below in absurd (omega (arith, l))));
  count = refl;
}

-- one common neighbour more
pub common_more : (g : LinkGraph) (p : ℕ) (set : List ℕ) (after n place : ℕ) → IsGraph g
    → IsFirst (IsWithin g p set) after place → AreCommonBelow g p set after n
    → AreCommonBelow g p set (place + 1) (n + 1)
common_more g p set after n place graph first before =
    let reached = first.reached in
    let here : ℕ = node_at g place in
    let long = length-append before.found (here ∷ []) in
    let count = before.count in
    record {
      found = before.found ++ here ∷ [];
      ascend = ordered_append (λ x y. x < y) before.found (here ∷ []) before.ascend (tt, tt) (λ x y h k. elim k [
        | inl e ↦ subst (λ (z : ℕ). x < z) e (earlier x h)
        | inr none ↦ absurd none
      ]);
      each = λ c. (
        (λ h. elim (has_append_cases before.found (here ∷ []) c h) [
          | inl k ↦
              let b = (before.each c).0 k in
              let l = b.below in
              record { place = b.place; below = omega (arith, l, reached); within = b.within; node = b.node }
          | inr k ↦ elim k [
            | inl e ↦ record { place = place; below = omega arith; within = first.holds; node = e }
            | inr none ↦ absurd none
          ]
        ]),
        (λ b.
            let m = b.below in
            elim (cases_lt b.place after) [
              | inl l ↦ has_append_left before.found (here ∷ []) c
                  ((before.each c).1 (record { place = b.place; below = l; within = b.within; node = b.node }))
              | inr ge ↦ elim (cases_eq b.place place) [
                | inl e ↦ has_append_right before.found (here ∷ []) c
                    (inl (ap (λ (i : ℕ). node_at g i) (sym e) ∙ b.node))
                | inr ne ↦ absurd (first.first b.place ge (omega (arith, m, ne)) b.within)
              ]
            ]),
      );
      count = omega (arith, long, count);
    }
  where
    earlier : (x : ℕ) → Has before.found x → x < node_at g place
    earlier x h =
        let b = (before.each x).0 h in
        let l = b.below in
        let r = first.reached in
        let less : slice_index g.nodes b.place < slice_index g.nodes place =
        ordered_at (λ x y. x < y) g.nodes b.place place 0 graph.nodes_ascend (omega (arith, l, r)) first.holds.0.0 in
        subst (λ (z : ℕ). z < node_at g place) b.node less

-- after the last one: these are the common neighbours of the node and of that whose neighbours are in the set
pub common_all : (g : LinkGraph) (a p : ℕ) (set : List ℕ) (after n : ℕ) → IsGraph g
    → HoldsNoMore (IsWithin g p set) after → AreCommonBelow g p set after n → IsNeighbourSet g a set
    → HaveCommon g a (node_at g p) n
common_all g a p set after n graph none all of_a = (
  all.found,
  record {
    ascend = all.ascend;
    each = λ c. (
      (λ h.
          let b = (all.each c).0 h in (
            subst (λ (z : ℕ). Linked g a z) b.node ((of_a b.place).0 b.within.1).1,
            subst (λ (z : ℕ). Linked g (node_at g p) z) b.node b.within.0.1,
          )),
      (λ h.
          let k = place_of g.nodes c (linked_node g a c graph h.0) in
          let here : c ≡ node_at g k.0 = sym k.2 in
          let bit = (of_a k.0).1 (k.1, subst (λ (z : ℕ). Linked g a z) here h.0) in
          let within : IsWithin g p set k.0 =
          ((k.1, subst (λ (z : ℕ). Linked g (node_at g p) z) here h.1), bit) in
          let below : k.0 < after = elim (cases_lt k.0 after) [ inl l ↦ l | inr ge ↦ absurd (none k.0 ge within) ] in
          (all.each c).1 (record { place = k.0; below = below; within = within; node = k.2 })),
    );
  },
  all.count,
)

-- they are fewer than the nodes of the set, if the node itself is one of these
pub common_few : (g : LinkGraph) (p : ℕ) (set : List ℕ) (after n : ℕ) → IsGraph g → p < length g.nodes
    → AreCommonBelow g p set after n → HasBit set p → n < length (picked set 0 g.nodes)
common_few g p set after n graph l all own =
    let within : (z : ℕ) → Has all.found z → Has (picked set 0 g.nodes) z = λ z h.
    let b = (all.each z).0 h in
    subst (λ (y : ℕ). Has (picked set 0 g.nodes) y) b.node (member b.place b.within.0.0 b.within.1) in
    let lacks : ¬ Has all.found (node_at g p) = λ h.
    let b = (all.each (node_at g p)).0 h in
    linked_differ g (node_at g p) (node_at g p) graph
    (subst (λ (z : ℕ). Linked g (node_at g p) z) b.node b.within.0.1) refl in
    let r = shorter all.found (picked set 0 g.nodes) (node_at g p) all.ascend
    (ascends_picked set 0 g.nodes graph.nodes_ascend) within (member p l own) lacks in
    let count = all.count in
    omega (arith, r, count)
  where
    member : (q : ℕ) → q < length g.nodes → HasBit set q → Has (picked set 0 g.nodes) (node_at g q)
    member q m h = in_picked set 0 g.nodes q m (bit_moved set q (0 + q) (omega arith) h)

-- the common neighbours with one neighbour more
pub pairs_more : (g : LinkGraph) (set : List ℕ) (from p n total : ℕ) → IsOfNodes g set → IsFirstFrom set from p
    → ((a : ℕ) → IsNeighbourSet g a set → HaveCommon g a (node_at g p) n)
    → ((a : ℕ) → IsNeighbourSet g a set
    → GoesOn (HaveCommon g a) (picked set 0 g.nodes) (picked set from (drop from g.nodes)) total)
    → (a : ℕ) → IsNeighbourSet g a set
    → GoesOn (HaveCommon g a) (picked set 0 g.nodes) (picked set (p + 1) (drop (p + 1) g.nodes)) (total + n)
pairs_more g set from p n total within first common before a of_a =
    goes_more (HaveCommon g a) (picked set 0 g.nodes) (picked set from (drop from g.nodes))
    (picked set (p + 1) (drop (p + 1) g.nodes)) (node_at g p) n total
    (next_picked set g.nodes from p 0 first (within p first.set)) (common a of_a) (before a of_a)

-- each of the neighbours that are left adds `most` pairs at most
pub pairs_fit : (g : LinkGraph) (set : List ℕ) (from p n total most all : ℕ) → IsOfNodes g set
    → IsFirstFrom set from p → n ≤ most → total + most * length (picked set from (drop from g.nodes)) ≤ all
    → total + n + most * length (picked set (p + 1) (drop (p + 1) g.nodes)) ≤ all
pairs_fit g set from p n total most all within first few fits =
    let k : ℕ = length (picked set (p + 1) (drop (p + 1) g.nodes)) in
    let e : length (picked set from (drop from g.nodes)) ≡ suc k =
    ap (λ (xs : List ℕ). length xs) (next_picked set g.nodes from p 0 first (within p first.set)) in
    let f : most * length (picked set from (drop from g.nodes)) ≡ most * suc k = ap (λ (i : ℕ). most * i) e in
    let m = mul-suc most k in
    omega (arith, f, m, few, fits)

-- the number of one node more
pub nodes_more : (R : ℕ → ℕ → Type 0) (nodes : List ℕ) (place v total : ℕ) → place < length nodes
    → R (slice_index nodes place) v → GoesOn R nodes (drop place nodes) total
    → GoesOn R nodes (drop (place + 1) nodes) (total + v)
nodes_more R nodes place v total l r before =
    let e : suc place ≡ place + 1 = omega arith in
    let step : drop place nodes ≡ slice_index nodes place ∷ drop (suc place) nodes = drop-cons nodes place 0 l in
    subst (λ (i : ℕ). GoesOn R nodes (drop i nodes) (total + v)) e
    (goes_more R nodes (drop place nodes) (drop (suc place) nodes) (slice_index nodes place) v total step r before)

-- as many bits as a node's row has are its degree
pub degree_of : (g : LinkGraph) (a n words : ℕ) (row : List ℕ) → IsGraph g → length g.nodes ≤ 64 * words
    → IsNeighbourSet g a row → IsCountOf row words n → IsDegree g a n
degree_of g a n words row graph few of_a counted =
    (picked row 0 g.nodes, are_neighbours g a row graph of_a, sym (counted g.nodes (λ q h. ((of_a q).0 h).0) few))

-- the degree of one node more
pub degrees_more : (g : LinkGraph) (ds new : List ℕ) (place v : ℕ) → length ds ≡ place → new ≡ ds ++ v ∷ []
    → IsDegree g (node_at g place) v
    → ((p : ℕ) → p < place → IsDegree g (node_at g p) (slice_index ds p)) → (p : ℕ) → p < place + 1
    → IsDegree g (node_at g p) (slice_index new p)
degrees_more g ds new place v long is here before p m = elim (cases_eq p place) [
  | inl e ↦
      let there : slice_index new p ≡ v =
      ap (λ (xs : List ℕ). slice_index xs p) is ∙ ap (λ (i : ℕ). slice_index (ds ++ v ∷ []) i) (e ∙ sym long)
      ∙ get_or-append_seam ds v [] 0 in
      subst (λ (d : ℕ). IsDegree g (node_at g p) d) (sym there)
      (subst (λ (i : ℕ). IsDegree g (node_at g i) v) (sym e) here)
  | inr ne ↦
      let same : slice_index new p ≡ slice_index ds p =
      ap (λ (xs : List ℕ). slice_index xs p) is ∙ get_or_append_left ds (v ∷ []) 0 p (omega (arith, m, ne, long)) in
      subst (λ (d : ℕ). IsDegree g (node_at g p) d) (sym same) (before p (omega (arith, m, ne)))
]

-- the degree at a place of all degrees in order
pub quartile_of : (g : LinkGraph) (degrees ordered : List ℕ) (k place : ℕ) → AreDegrees g degrees
    → IsPermutation degrees ordered → IsSortedByKey (λ (x : ℕ). x) nat_cmp ordered
    → place ≡ quarters k (length g.nodes) - 1 → IsQuartile g k (slice_index ordered place)
quartile_of g degrees ordered k place are permuted sorted at = (
  ordered,
  record {
    unordered = degrees;
    degrees = are;
    permuted = permuted;
    ascend = IsNonDecreasingBy-from_sort (λ (x : ℕ). x) ordered sorted;
  },
  ap (λ (i : ℕ). slice_index ordered i) at,
)
