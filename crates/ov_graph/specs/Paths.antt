-- Paths that share only their ends, and fans (Menger, Fund. Math. 10, 1927; Even, SIAM J. Comput. 4, 1975).
use Rattle.std.specs.Prelude.{◌≡◌, ℕ, List, [], ◌∷◌, length, slice_index}
use Rattle.ov_ids.specs.Members.{Has, IsDistinct}
use Rattle.ov_graph.specs.Links.{LinkGraph}
use Rattle.ov_graph.specs.Joined.{IsWalk}

-- a path: a walk from a to b over distinct nodes of g
pub record IsPath (g : LinkGraph) (a : ℕ) (path : List ℕ) (b : ℕ) : Type 0 where
  pub nodes : (x : ℕ) → Has path x → Has g.nodes x
  pub walk : IsWalk g a path b
  pub distinct : IsDistinct path

-- every two of the lists have only members of `shared` in common
abbrev pub ShareOnly : List ℕ → List (List ℕ) → Type 0
ShareOnly shared [] = Unit {0}
ShareOnly shared (p ∷ ps) = ((r : List ℕ) (x : ℕ) → Has ps r → Has p x → Has r x → Has shared x) × ShareOnly shared ps

-- k paths from a to b, every two of which share only a and b
pub record ArePaths (g : LinkGraph) (a b k : ℕ) (paths : List (List ℕ)) : Type 0 where
  pub count : length paths ≡ k
  pub each : (p : List ℕ) → Has paths p → IsPath g a p b
  pub apart : ShareOnly (a ∷ b ∷ []) paths

-- a fan: k paths from a to members of `targets`, every two of which share only a. As a is no target, they end at k
-- different targets
pub record IsFan (g : LinkGraph) (a : ℕ) (targets : List ℕ) (k : ℕ) (paths : List (List ℕ)) : Type 0 where
  pub count : length paths ≡ k
  pub outside : ¬ Has targets a
  pub each : (p : List ℕ) → Has paths p → (t : ℕ) × Has targets t × IsPath g a p t
  pub apart : ShareOnly (a ∷ []) paths

-- the node at a place. Places count the nodes from 0, in the order of ids
abbrev pub node_at : LinkGraph → ℕ → ℕ
node_at g place = slice_index g.nodes place
