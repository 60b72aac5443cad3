-- The clustering coefficient (Watts and Strogatz, Nature 393, 1998).
use Rattle.std.specs.Prelude.{◌≡◌, ◌↔◌, ℕ, ◌-◌, ◌*◌, ◌/◌, List, length, nat_lt, if◌then◌else◌}
use Rattle.ov_ids.specs.Members.{Has, Ascends}
use Rattle.ov_graph.specs.Links.{LinkGraph, Linked, AreNeighbours}
use Rattle.ov_shape.specs.Sums.{IsSum, one_million}

-- cs are the common neighbours of a and b, ascending: the nodes to which both are linked
pub record AreCommon (g : LinkGraph) (a b : ℕ) (cs : List ℕ) : Type 0 where
  pub ascend : Ascends cs
  pub each : (c : ℕ) → Has cs c ↔ (Linked g a c × Linked g b c)

-- a and b have n common neighbours
abbrev pub HaveCommon : LinkGraph → ℕ → ℕ → ℕ → Type 0
HaveCommon g a b n = (cs : List ℕ) × AreCommon g a b cs × (length cs ≡ n)

-- the share of `linked` among all ordered pairs of k things, in millionths, rounded down; 0 if there is no pair
abbrev pub share_of_pairs : ℕ → ℕ → ℕ
share_of_pairs linked k = if nat_lt k 2 then 0 else linked * one_million / (k * (k - 1))

-- c is the clustering coefficient of a, in millionths: of the ordered pairs of its neighbours the share that is linked.
-- A neighbour b is linked to the common neighbours of a and b, so the sum counts these pairs
abbrev pub IsCoefficient : LinkGraph → ℕ → ℕ → Type 0
IsCoefficient g a c = (ns : List ℕ) × AreNeighbours g a ns × (linked : ℕ) × IsSum (HaveCommon g a) ns linked
    × (c ≡ share_of_pairs linked (length ns))

-- c is the clustering coefficient of the graph, in ten-thousandths: the mean of those of all nodes, rounded down. A
-- hundred millionths are a ten-thousandth
abbrev pub IsClustering : LinkGraph → ℕ → Type 0
IsClustering g c = (total : ℕ) × IsSum (IsCoefficient g) g.nodes total × (c ≡ total / (100 * length g.nodes))
