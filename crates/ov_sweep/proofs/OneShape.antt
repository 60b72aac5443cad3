-- A graph has one shape.
use Rattle.std.proofs.Common.{◌≡◌, ◌∙◌, ◌<◌, ◌≤◌, ◌+◌, ◌-◌, ◌*◌, ◌/◌, ℕ, suc, cond, List, [], ◌∷◌, length, slice_index}
use Rattle.std.proofs.Common.{Option, Some, None, refl, sym, ap, ap₂, subst, arith, inl, inr}
use Rattle.std.specs.Prelude.{nat_lt, option_map}
use Rattle.std.specs.List.{sum_by}
use Rattle.std.specs.List.Sorted.{IsNonDecreasing}
use Rattle.std.proofs.lemmas.Bool.{cases_lt, lt-ltb, le-ltb}
use Rattle.std.proofs.lemmas.Grind.{same_number_lists}
use Rattle.std.proofs.lemmas.List.Sorted.{sum_by-IsPermutation}
use Rattle.std.proofs.lemmas.List.Sums.{sum_by-cons}
use Rattle.ov_ids.proofs.Members.{same_ascending}
use Rattle.ov_articulations.specs.Articulations.{AreArticulations, HasArticulations}
use Rattle.ov_graph.specs.Links.{LinkGraph, AreNeighbours}
use Rattle.ov_graph.specs.Paths.{node_at}
use Rattle.ov_shape.specs.Clustering.{HaveCommon, IsClustering, IsCoefficient, share_of_pairs}
use Rattle.ov_graph.specs.Components.{HasLargest, IsComponent, IsLargest}
use Rattle.ov_shape.specs.Degrees.{AreAscendingDegrees, AreDegrees, IsDegree, IsQuartile, quarters}
use Rattle.ov_shape.specs.Distances.{IsDistance}
use Rattle.ov_shape.specs.ShortestPaths.{HasDiameter, HasMeanPath, IsDistanceSum, IsLongest}
use Rattle.ov_shape.specs.Sums.{IsSum}
use Rattle.ov_sweep_rows.specs.declared.phase_shape.PhaseShape.{PhaseShape}
use Rattle.ov_sweep_rows.specs.declared.four_decimals.FourDecimals.{FourDecimals}
use Rattle.ov_sweep.specs.Rows.{IsShapeOf}

-- ---- sums

-- numbers of which there is one to each item have one sum
one_sum : (R : ℕ → ℕ → Type 0) → ((x m n : ℕ) → R x m → R x n → m ≡ n) → (xs : List ℕ) (m n : ℕ) → IsSum R xs m
    → IsSum R xs n → m ≡ n
one_sum R one [] m n a b = a ∙ sym b
one_sum R one (x ∷ xs) m n (first, rest, is, sum, same) (other, more, also, adds, equal) =
    same ∙ (ap₂ (λ p q. p + q) (one x first other is also) (one_sum R one xs rest more sum adds) ∙ sym equal)

-- ---- the largest component

one_component : (g : LinkGraph) (a : ℕ) (xs ys : List ℕ) → IsComponent g a xs → IsComponent g a ys → xs ≡ ys
one_component g a xs ys c d =
    same_ascending xs ys c.ascend d.ascend (λ x h. (d.each x).1 ((c.each x).0 h)) (λ x h. (c.each x).1 ((d.each x).0 h))

one_largest : (g : LinkGraph) (xs ys : List ℕ) → IsLargest g xs → IsLargest g ys → xs ≡ ys
one_largest g xs ys a b =
    let more : length ys ≤ length xs = a.most b.first ys b.component in
    let less : length xs ≤ length ys = b.most a.first xs a.component in
    let below : a.first ≤ b.first = a.least b.first ys b.component (omega (arith, more, less)) in
    let above : b.first ≤ a.first = b.least a.first xs a.component (omega (arith, more, less)) in
    let same : b.first ≡ a.first = omega (arith, below, above) in
    one_component g a.first xs ys a.component (subst (λ (n : ℕ). IsComponent g n ys) same b.component)

one_count : (g : LinkGraph) (n m : ℕ) → HasLargest g n → HasLargest g m → n ≡ m
one_count g n m (xs, is, count) (ys, also, many) =
    sym count ∙ (ap (λ (zs : List ℕ). length zs) (one_largest g xs ys is also) ∙ many)

-- ---- articulation points

one_number_of_articulations : (g : LinkGraph) (n m : ℕ) → HasArticulations g n → HasArticulations g m → n ≡ m
one_number_of_articulations g n m (xs, ps, is, are, count) (ys, qs, also, be, many) =
    let same : ys ≡ xs = sym (one_largest g xs ys is also) in
    let points = subst (λ (zs : List ℕ). AreArticulations g zs qs) same be in
    let one : ps ≡ qs = same_ascending ps qs are.ascend points.ascend
    (λ x h. (points.each x).1 ((are.each x).0 h)) (λ x h. (are.each x).1 ((points.each x).0 h)) in
    sym count ∙ (ap (λ (zs : List ℕ). length zs) one ∙ many)

-- ---- distances

one_distance : (g : LinkGraph) (a b d e : ℕ) → IsDistance g a b d → IsDistance g a b e → d ≡ e
one_distance g a b d e is also =
    let below : d ≤ e = is.least e also.walk in
    let above : e ≤ d = also.least d is.walk in
    omega (arith, below, above)

one_distance_sum : (g : LinkGraph) (xs : List ℕ) (n m : ℕ) → IsDistanceSum g xs n → IsDistanceSum g xs m → n ≡ m
one_distance_sum g xs n m a b =
    one_sum (λ x. IsSum (IsDistance g x) xs)
    (λ x p q. one_sum (IsDistance g x) (λ y d e. one_distance g x y d e) xs p q) xs n m a b

one_diameter : (g : LinkGraph) (d e : ℕ) → HasDiameter g d → HasDiameter g e → d ≡ e
one_diameter g d e (xs, is, far) (ys, also, long) =
    let there : IsLongest g xs e =
    subst (λ (zs : List ℕ). IsLongest g zs e) (sym (one_largest g xs ys is also)) long in
    let below : d ≤ e = there.most far.a far.b d far.a_within far.b_within far.reached in
    let above : e ≤ d = far.most there.a there.b e there.a_within there.b_within there.reached in
    omega (arith, below, above)

one_path : (g : LinkGraph) (p q : Option ℕ) → HasMeanPath g p → HasMeanPath g q → p ≡ q
one_path g None None a b = refl
one_path g None (Some m) (xs, is, alone) (ys, also, many, total, sum, mean) =
    let same = ap (λ (zs : List ℕ). length zs) (one_largest g xs ys is also) in
    absurd (omega (arith, same, alone, many))
one_path g (Some m) None (xs, is, many, total, sum, mean) (ys, also, alone) =
    let same = ap (λ (zs : List ℕ). length zs) (one_largest g xs ys is also) in
    absurd (omega (arith, same, alone, many))
one_path g (Some m) (Some n) (xs, is, many, total, sum, mean) (ys, also, more, all, adds, also_mean) =
    let same : ys ≡ xs = sym (one_largest g xs ys is also) in
    let one : total ≡ all =
    one_distance_sum g xs total all sum (subst (λ (zs : List ℕ). IsDistanceSum g zs all) same adds) in
    let count : length xs ≡ length ys = ap (λ (zs : List ℕ). length zs) (sym same) in
    ap Some (mean ∙ (ap₂ (λ t k. t * 10000 / (k * (k - 1))) one count ∙ sym also_mean))

-- ---- clustering

one_common : (g : LinkGraph) (a b n m : ℕ) → HaveCommon g a b n → HaveCommon g a b m → n ≡ m
one_common g a b n m (cs, are, count) (ds, also, many) =
    sym count ∙ (ap (λ (zs : List ℕ). length zs) (same_ascending cs ds are.ascend also.ascend
    (λ x h. (also.each x).1 ((are.each x).0 h)) (λ x h. (are.each x).1 ((also.each x).0 h))) ∙ many)

one_neighbours : (g : LinkGraph) (a : ℕ) (ns ms : List ℕ) → AreNeighbours g a ns → AreNeighbours g a ms → ns ≡ ms
one_neighbours g a ns ms n m =
    same_ascending ns ms n.ascend m.ascend (λ x h. (m.each x).1 ((n.each x).0 h)) (λ x h. (n.each x).1 ((m.each x).0 h))

one_coefficient : (g : LinkGraph) (a c d : ℕ) → IsCoefficient g a c → IsCoefficient g a d → c ≡ d
one_coefficient g a c d (ns, are, linked, sum, is) (ms, also, pairs, adds, same) =
    let there : ms ≡ ns = one_neighbours g a ms ns also are in
    let one : linked ≡ pairs =
    one_sum (HaveCommon g a) (λ b n m. one_common g a b n m) ns linked pairs sum
    (subst (λ (zs : List ℕ). IsSum (HaveCommon g a) zs pairs) there adds) in
    is ∙ (ap₂ (λ l k. share_of_pairs l k) one (ap (λ (zs : List ℕ). length zs) (sym there)) ∙ sym same)

one_clustering : (g : LinkGraph) (c d : ℕ) → IsClustering g c → IsClustering g d → c ≡ d
one_clustering g c d (total, sum, is) (all, adds, same) =
    is ∙ (ap (λ t. t / (100 * length g.nodes))
    (one_sum (IsCoefficient g) (λ a m n. one_coefficient g a m n) g.nodes total all sum adds) ∙ sym same)

-- ---- degrees

-- 1 if a number is below another one
below : ℕ → ℕ → ℕ
below v n = cond (nat_lt n v) 1 0

none_below : (v : ℕ) (xs : List ℕ) → ((k : ℕ) → k < length xs → v ≤ slice_index xs k) → sum_by (below v) xs ≡ 0
unfolding below
none_below v [] rise = refl
none_below v (x ∷ xs) rise =
    let first : v ≤ x = rise 0 (omega arith) in
    let here : below v x ≡ 0 = ap (λ b. cond b 1 0) (le-ltb x v first) in
    let rest = none_below v xs (λ k within. rise (suc k) (omega (arith, within))) in
    sum_by-cons (below v) x xs ∙ ap₂ (λ p q. p + q) here rest

-- of two lists with as many numbers below y, of which one begins with y and does not fall, the other begins no lower
no_lower : (x y : ℕ) (xs ys : List ℕ) → IsNonDecreasing (y ∷ ys)
    → sum_by (below y) (x ∷ xs) ≡ sum_by (below y) (y ∷ ys) → y ≤ x
unfolding below
no_lower x y xs ys rise same = elim (cases_lt x y) [
  | inl less ↦
      (let here : below y x ≡ 1 = ap (λ b. cond b 1 0) (lt-ltb x y less) in
      let sum = sum_by-cons (below y) x xs in
      let none = none_below y (y ∷ ys) (λ k within. rise 0 k 0 (omega arith) within) in
      absurd (omega (arith, here, sum, none, same)))
  | inr more ↦ more
]

rises_on : (x : ℕ) (xs : List ℕ) → IsNonDecreasing (x ∷ xs) → IsNonDecreasing xs
rises_on x xs rise i j d order within = rise (suc i) (suc j) d (omega (arith, order)) (omega (arith, within))

-- two lists that do not fall, with the same sums of whatever numbers are given to their items, are one
same_rising : (xs ys : List ℕ) → IsNonDecreasing xs → IsNonDecreasing ys
    → ((f : ℕ → ℕ) → sum_by f xs ≡ sum_by f ys) → xs ≡ ys
same_rising [] [] a b same = refl
same_rising [] (y ∷ ys) a b same =
    let sum = sum_by-cons (λ n. 1) y ys in
    let equal = same (λ n. 1) in
    absurd (omega (arith, sum, equal))
same_rising (x ∷ xs) [] a b same =
    let sum = sum_by-cons (λ n. 1) x xs in
    let equal = same (λ n. 1) in
    absurd (omega (arith, sum, equal))
same_rising (x ∷ xs) (y ∷ ys) a b same =
    let low : y ≤ x = no_lower x y xs ys b (same (below y)) in
    let high : x ≤ y = no_lower y x ys xs a (sym (same (below x))) in
    let first : x ≡ y = omega (arith, low, high) in
    ap₂ (λ z zs. z ∷ zs) first (same_rising xs ys (rises_on x xs a) (rises_on y ys b) (λ f. rest f first))
  where
    rest : (f : ℕ → ℕ) → x ≡ y → sum_by f xs ≡ sum_by f ys
    rest f first =
        let one = sum_by-cons f x xs in
        let other = sum_by-cons f y ys in
        let all = same f in
        let head = ap f first in
        omega (arith, one, other, all, head)

one_degree : (g : LinkGraph) (a d e : ℕ) → IsDegree g a d → IsDegree g a e → d ≡ e
one_degree g a d e (ns, are, count) (ms, also, many) =
    sym count ∙ (ap (λ (zs : List ℕ). length zs) (one_neighbours g a ns ms are also) ∙ many)

one_list_of_degrees : (g : LinkGraph) (ds es : List ℕ) → AreDegrees g ds → AreDegrees g es → ds ≡ es
one_list_of_degrees g ds es a b =
    let count = a.count in
    let many = b.count in
    same_number_lists ds es (omega (arith, count, many))
    (λ k within. one_degree g (node_at g k) (slice_index ds k) (slice_index es k)
    (a.each k (omega (arith, within, count))) (b.each k (omega (arith, within, count))))

one_ascending : (g : LinkGraph) (ds es : List ℕ) → AreAscendingDegrees g ds → AreAscendingDegrees g es → ds ≡ es
one_ascending g ds es a b =
    let same : b.unordered ≡ a.unordered = one_list_of_degrees g b.unordered a.unordered b.degrees a.degrees in
    same_rising ds es a.ascend b.ascend (λ f.
    sum_by-IsPermutation f a.unordered ds a.permuted
    ∙ (ap (λ zs. sum_by f zs) (sym same) ∙ sym (sum_by-IsPermutation f b.unordered es b.permuted)))

one_quartile : (g : LinkGraph) (k d e : ℕ) → IsQuartile g k d → IsQuartile g k e → d ≡ e
one_quartile g k d e (ds, are, is) (es, also, same) =
    is ∙ (ap (λ zs. slice_index zs (quarters k (length g.nodes) - 1)) (one_ascending g ds es are also) ∙ sym same)

-- ---- the shape

same_decimals : (p q : FourDecimals) → p.parts ≡ q.parts → p ≡ q
same_decimals p q same = λ i. record { parts = same i }

same_path : (p q : Option FourDecimals) → option_map (λ x. x.parts) p ≡ option_map (λ x. x.parts) q → p ≡ q
same_path None None same = refl
same_path None (Some q) same = absurd cc
same_path (Some p) None same = absurd cc
same_path (Some p) (Some q) same = ap Some (same_decimals p q (same_some p.parts q.parts same))
  where
    same_some : (m n : ℕ) → Some m ≡ Some n → m ≡ n
    same_some m n equal = cc

pub one_shape : (g : LinkGraph) (a b : PhaseShape) → IsShapeOf g a → IsShapeOf g b → a ≡ b
one_shape g a b is also = λ i. record {
  largest = (one_count g a.largest b.largest is.largest also.largest) i;
  clustering = (same_decimals a.clustering b.clustering
      (one_clustering g a.clustering.parts b.clustering.parts is.clustering also.clustering)) i;
  path = (same_path a.path b.path (one_path g (option_map (λ p. p.parts) a.path) (option_map (λ p. p.parts) b.path)
      is.path also.path)) i;
  diameter = (one_diameter g a.diameter b.diameter is.diameter also.diameter) i;
  degree_25 = (one_quartile g 1 a.degree_25 b.degree_25 is.degree_25 also.degree_25) i;
  degree_50 = (one_quartile g 2 a.degree_50 b.degree_50 is.degree_50 also.degree_50) i;
  degree_75 = (one_quartile g 3 a.degree_75 b.degree_75 is.degree_75 also.degree_75) i;
  articulations = (one_number_of_articulations g a.articulations b.articulations is.articulations also.articulations) i;
}
