-- What the shape of a graph is made of.
use Rattle.std.proofs.Common.{◌≡◌, ◌∙◌, ℕ, ◌-◌, ◌*◌, ◌/◌, ◌<◌, ◌≤◌, List, Bool, cond, Option, Some, None, IfSome}
use Rattle.std.proofs.Common.{IfNone, sym, ap, arith}
use Rattle.std.proofs.lemmas.Bool.{lt-ltb, le-ltb}
use Rattle.ov_graph.specs.Links.{LinkGraph}
use Rattle.ov_graph.specs.Row.{picked}
use Rattle.ov_shape.specs.Clustering.{share_of_pairs}
use Rattle.ov_graph.specs.Components.{HasLargest}
use Rattle.ov_shape.specs.ShortestPaths.{IsDistanceSum, IsLongest, HasDiameter, HasMeanPath}
use Rattle.ov_shape.specs.Code.Found.{IsLargestFound}

pub has_largest : (g : LinkGraph) (row : List ℕ) (count : ℕ) → IsLargestFound g row count → HasLargest g count
has_largest g row count f = (picked row 0 g.nodes, f.largest, sym f.counted)

pub has_diameter : (g : LinkGraph) (row : List ℕ) (count d : ℕ) → IsLargestFound g row count
    → IsLongest g (picked row 0 g.nodes) d → HasDiameter g d
has_diameter g row count d f far = (picked row 0 g.nodes, f.largest, far)

pub has_mean_path : (g : LinkGraph) (row : List ℕ) (count total : ℕ) (m : Option ℕ) → IsLargestFound g row count
    → IsDistanceSum g (picked row 0 g.nodes) total → IfNone m (count ≡ 1)
    → IfSome m (λ v. (1 < count) × (v ≡ total * 10000 / (count * (count - 1)))) → HasMeanPath g m
has_mean_path g row count total None f sum none some = (picked row 0 g.nodes, f.largest, sym f.counted ∙ none)
has_mean_path g row count total (Some v) f sum none some =
    let e = f.counted in
    let l = some.0 in (
      picked row 0 g.nodes,
      f.largest,
      omega (arith, e, l),
      total,
      sum,
      some.1 ∙ ap (λ (k : ℕ). total * 10000 / (k * (k - 1))) e,
    )

-- the share of the pairs of few things, and of more
pub share_of_few : (linked k : ℕ) → k < 2 → 0 ≡ share_of_pairs linked k
share_of_few linked k l = sym (ap (λ (b : Bool). cond b 0 (linked * 1000000 / (k * (k - 1)))) (lt-ltb k 2 l))

pub share_of_more : (linked k : ℕ) → 2 ≤ k → linked * 1000000 / (k * (k - 1)) ≡ share_of_pairs linked k
share_of_more linked k l = sym (ap (λ (b : Bool). cond b 0 (linked * 1000000 / (k * (k - 1)))) (le-ltb k 2 l))
