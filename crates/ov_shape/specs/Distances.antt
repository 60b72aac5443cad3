-- How far two nodes of a graph are from each other.
use Rattle.std.specs.Prelude.{◌≡◌, ℕ, suc, ◌≤◌, List, length}
use Rattle.ov_graph.specs.Links.{LinkGraph}
use Rattle.ov_graph.specs.Joined.{IsWalk}

-- a walk of m links leads from a to b: a walk over m + 1 nodes
abbrev pub WalksBy : LinkGraph → ℕ → ℕ → ℕ → Type 0
WalksBy g m a b = (walk : List ℕ) × IsWalk g a walk b × (length walk ≡ suc m)

-- d is the distance from a to b: the number of links of a shortest walk
pub record IsDistance (g : LinkGraph) (a b d : ℕ) : Type 0 where
  pub walk : WalksBy g d a b
  pub least : (m : ℕ) → WalksBy g m a b → d ≤ m
