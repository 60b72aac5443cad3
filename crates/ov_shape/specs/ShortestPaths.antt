-- How long the shortest paths are within the largest component.
use Rattle.std.specs.Prelude.{◌≡◌, ℕ, ◌-◌, ◌*◌, ◌/◌, ◌<◌, ◌≤◌, List, length, Option, Some, None}
use Rattle.ov_ids.specs.Members.{Has}
use Rattle.ov_graph.specs.Links.{LinkGraph}
use Rattle.ov_shape.specs.Sums.{IsSum, parts_of_one}
use Rattle.ov_shape.specs.Distances.{IsDistance}
use Rattle.ov_graph.specs.Components.{IsLargest}

-- n is the sum of the distances of all ordered pairs of nodes of xs. The distance of a node to itself is 0
abbrev pub IsDistanceSum : LinkGraph → List ℕ → ℕ → Type 0
IsDistanceSum g xs n = IsSum (λ a. IsSum (IsDistance g a) xs) xs n

-- d is the largest distance of two nodes of xs
pub record IsLongest (g : LinkGraph) (xs : List ℕ) (d : ℕ) : Type 0 where
  pub a : ℕ
  pub b : ℕ
  pub a_within : Has xs a
  pub b_within : Has xs b
  pub reached : IsDistance g a b d
  pub most : (x y e : ℕ) → Has xs x → Has xs y → IsDistance g x y e → e ≤ d

-- d is the diameter of the largest component
abbrev pub HasDiameter : LinkGraph → ℕ → Type 0
HasDiameter g d = (xs : List ℕ) × IsLargest g xs × IsLongest g xs d

-- the mean distance over all ordered pairs of different nodes of the largest component, in ten-thousandths, rounded
-- down; None if it has one node
abbrev pub HasMeanPath : LinkGraph → Option ℕ → Type 0
HasMeanPath g None = (xs : List ℕ) × IsLargest g xs × (length xs ≡ 1)
HasMeanPath g (Some mean) = (xs : List ℕ) × IsLargest g xs × (1 < length xs) × (total : ℕ) × IsDistanceSum g xs total
    × (mean ≡ total * parts_of_one / (length xs * (length xs - 1)))
