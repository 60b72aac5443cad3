-- The degrees of a graph's nodes.
use Rattle.std.specs.Prelude.{◌≡◌, ℕ, ◌+◌, ◌-◌, ◌*◌, ◌/◌, ◌<◌, List, length, slice_index, IsPermutation}
use Rattle.std.specs.List.Sorted.{IsNonDecreasing}
use Rattle.ov_graph.specs.Links.{LinkGraph, AreNeighbours}
use Rattle.ov_graph.specs.Paths.{node_at}

-- d is the degree of a: how many neighbours it has
abbrev pub IsDegree : LinkGraph → ℕ → ℕ → Type 0
IsDegree g a d = (ns : List ℕ) × AreNeighbours g a ns × (length ns ≡ d)

-- ds are the degrees of all nodes, in the order of their ids
pub record AreDegrees (g : LinkGraph) (ds : List ℕ) : Type 0 where
  pub count : length ds ≡ length g.nodes
  pub each : (p : ℕ) → p < length g.nodes → IsDegree g (node_at g p) (slice_index ds p)

-- ds are the degrees of all nodes in ascending order
pub record AreAscendingDegrees (g : LinkGraph) (ds : List ℕ) : Type 0 where
  pub unordered : List ℕ
  pub degrees : AreDegrees g unordered
  pub permuted : IsPermutation unordered ds
  pub ascend : IsNonDecreasing ds

-- k quarters of n, rounded up
abbrev pub quarters : ℕ → ℕ → ℕ
quarters k n = (k * n + 3) / 4

-- d is the degree at the place of k quarters of all nodes, counted from 1, in ascending order
abbrev pub IsQuartile : LinkGraph → ℕ → ℕ → Type 0
IsQuartile g k d = (ds : List ℕ) × AreAscendingDegrees g ds × (d ≡ slice_index ds (quarters k (length g.nodes) - 1))
