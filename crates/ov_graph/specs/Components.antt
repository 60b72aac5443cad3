-- The components of a graph, and the largest one.
use Rattle.std.specs.Prelude.{◌≡◌, ◌↔◌, ℕ, ◌≤◌, List, [], length}
use Rattle.ov_ids.specs.Members.{Has, Ascends}
use Rattle.ov_graph.specs.Links.{LinkGraph}
use Rattle.ov_graph.specs.Joined.{Joined}

-- xs is the component of the node a: the nodes that are joined to it, ascending
pub record IsComponent (g : LinkGraph) (a : ℕ) (xs : List ℕ) : Type 0 where
  pub node : Has g.nodes a
  pub ascend : Ascends xs
  pub each : (b : ℕ) → Has xs b ↔ Joined g [] a b

-- xs is the largest component: that of the node `first`. No component has more nodes, and no node with a smaller id has
-- one of as many
pub record IsLargest (g : LinkGraph) (xs : List ℕ) : Type 0 where
  pub first : ℕ
  pub component : IsComponent g first xs
  pub most : (b : ℕ) (ys : List ℕ) → IsComponent g b ys → length ys ≤ length xs
  pub least : (b : ℕ) (ys : List ℕ) → IsComponent g b ys → length ys ≡ length xs → first ≤ b

-- the largest component has n nodes
abbrev pub HasLargest : LinkGraph → ℕ → Type 0
HasLargest g n = (xs : List ℕ) × IsLargest g xs × (length xs ≡ n)
