-- What a search from one node found, and the places of a component. A set of places is a row of bits.
use Rattle.std.specs.Prelude.{◌≡◌, ◌↔◌, ℕ, ◌*◌, ◌<◌, ◌≤◌, List, [], length}
use Rattle.ov_ids.specs.Members.{Has}
use Rattle.ov_graph.specs.Links.{LinkGraph, HasNode, Linked, most_of_any_graph}
use Rattle.ov_graph.specs.Joined.{Joined}
use Rattle.ov_graph.specs.Paths.{node_at}
use Rattle.ov_graph.specs.Row.{HasBit, picked}
use Rattle.ov_graph.specs.Components.{HasLargest, IsLargest}
use Rattle.ov_shape.specs.Sums.{IsSum}
use Rattle.ov_shape.specs.Clustering.{IsClustering}
use Rattle.ov_shape.specs.Degrees.{IsQuartile}
use Rattle.ov_shape.specs.Distances.{IsDistance}
use Rattle.ov_shape.specs.ShortestPaths.{HasDiameter, HasMeanPath}
use Rattle.ov_shape.specs.declared.degree_quartiles.Quartiles.{Quartiles}
use Rattle.ov_shape.specs.declared.graph_shape.Shape.{Shape}
use Rattle.ov_shape.specs.declared.layered_search.Found.{Found}

-- the set has the places of the nodes of a's component
abbrev pub IsComponentSet : LinkGraph → ℕ → List ℕ → Type 0
IsComponentSet g a set = (q : ℕ) → HasBit set q ↔ ((q < length g.nodes) × Joined g [] a (node_at g q))

-- the places in the set are those of nodes
abbrev pub IsOfNodes : LinkGraph → List ℕ → Type 0
IsOfNodes g set = (q : ℕ) → HasBit set q → q < length g.nodes

-- the search from a found its component, how many nodes it has, the sum of the distances to them, and the largest one
pub record IsFound {W : ℕ} (g : LinkGraph) (a : ℕ) (f : Found W) : Type 0 where
  pub places : IsComponentSet g a f.places
  pub count : f.count ≡ length (picked f.places 0 g.nodes)
  pub total : IsSum (IsDistance g a) (picked f.places 0 g.nodes) f.total
  pub farthest : ℕ
  pub reached : IsDistance g a farthest f.far
  pub most : (x d : ℕ) → IsDistance g a x d → d ≤ f.far
  pub few : f.total ≤ most_of_any_graph * most_of_any_graph

-- the set has the places of the neighbours of a
abbrev pub IsNeighbourSet : LinkGraph → ℕ → List ℕ → Type 0
IsNeighbourSet g a set = (q : ℕ) → HasBit set q ↔ ((q < length g.nodes) × Linked g a (node_at g q))

-- q is linked to a node whose place is in the set
pub record IsBeside (g : LinkGraph) (front : List ℕ) (q : ℕ) : Type 0 where
  pub within : q < length g.nodes
  pub place : ℕ
  pub bit : HasBit front place
  pub linked : Linked g (node_at g place) (node_at g q)

-- the set has the places of the largest component, and it has so many nodes
pub record IsLargestFound (g : LinkGraph) (set : List ℕ) (count : ℕ) : Type 0 where
  pub first : ℕ
  pub node : Has g.nodes first
  pub set_of : IsComponentSet g first set
  pub largest : IsLargest g (picked set 0 g.nodes)
  pub counted : count ≡ length (picked set 0 g.nodes)

-- the quartiles of the degrees of all nodes
pub record HasQuartiles (g : LinkGraph) (q : Quartiles) : Type 0 where
  pub first : IsQuartile g 1 q.first
  pub median : IsQuartile g 2 q.median
  pub third : IsQuartile g 3 q.third

-- s is the shape of the graph
pub record IsShape (g : LinkGraph) (s : Shape) : Type 0 where
  pub node : HasNode g
  pub largest : HasLargest g s.largest
  pub clustering : IsClustering g s.clustering
  pub path : HasMeanPath g s.path
  pub diameter : HasDiameter g s.diameter
  pub degree_25 : IsQuartile g 1 s.degree_25
  pub degree_50 : IsQuartile g 2 s.degree_50
  pub degree_75 : IsQuartile g 3 s.degree_75
