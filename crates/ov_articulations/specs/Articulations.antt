-- The articulation points of a graph's largest component, which are also called cut vertices (Tarjan, SIAM J. Comput. 1,
-- 1972: "Depth-first search and linear graph algorithms").
use Rattle.std.specs.Prelude.{◌≡◌, ◌≢◌, ◌↔◌, ℕ, List, [], ◌∷◌, length}
use Rattle.ov_ids.specs.Members.{Has, Ascends}
use Rattle.ov_graph.specs.Links.{LinkGraph}
use Rattle.ov_graph.specs.Joined.{Joined}
use Rattle.ov_graph.specs.Components.{IsLargest}

-- v is an articulation point of the component xs: a node of it after whose crash, alone, two other nodes of xs are not
-- joined by what is left
pub record IsArticulation (g : LinkGraph) (xs : List ℕ) (v : ℕ) : Type 0 where
  pub member : Has xs v
  pub a : ℕ
  pub b : ℕ
  pub a_within : Has xs a
  pub b_within : Has xs b
  pub a_left : a ≢ v
  pub b_left : b ≢ v
  pub parted : ¬ Joined g (v ∷ []) a b

-- the articulation points of xs, ascending
pub record AreArticulations (g : LinkGraph) (xs points : List ℕ) : Type 0 where
  pub ascend : Ascends points
  pub each : (v : ℕ) → Has points v ↔ IsArticulation g xs v

-- the largest component has n articulation points
abbrev pub HasArticulations : LinkGraph → ℕ → Type 0
HasArticulations g n =
    (xs : List ℕ) × (points : List ℕ) × IsLargest g xs × AreArticulations g xs points × (length points ≡ n)
