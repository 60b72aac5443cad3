-- Even's test of node connectivity (Even, SIAM J. Comput. 4, 1975), for a group of nodes. Its members are taken in the
-- order of their ids. The paths may use all nodes of the graph.
use Rattle.std.specs.Prelude.{ℕ, zero, suc, ◌<◌, List, [], take, drop, filter, nat_lt}
use Rattle.ov_ids.specs.Members.{Has}
use Rattle.ov_graph.specs.Links.{LinkGraph, Linked}
use Rattle.ov_graph.specs.Paths.{ArePaths, IsFan}

-- p is a pair of the first k members, the lower id first, and the two are not linked
abbrev pub IsUnlinkedPair : LinkGraph → List ℕ → ℕ → ℕ × ℕ → Type 0
IsUnlinkedPair g q k p = Has (take k q) p.0 × Has (take k q) p.1 × (p.0 < p.1) × ¬ Linked g p.0 p.1

-- the members after the first k. At k = 0 the test asks nothing, and the list is empty
abbrev pub later_members : List ℕ → ℕ → List ℕ
later_members q zero = []
later_members q (suc k) = drop (suc k) q

-- the members before a: those with lower ids
abbrev pub members_below : List ℕ → ℕ → List ℕ
members_below q a = filter (λ x. nat_lt x a) q

-- the test passes at k. Every two unlinked members among the first k have k paths that share only their ends. Each
-- later member has a fan of k paths to the members before it
pub record PassesEven (g : LinkGraph) (q : List ℕ) (k : ℕ) : Type 0 where
  pub pairs : (i j : ℕ) → IsUnlinkedPair g q k (i, j) → (paths : List (List ℕ)) × ArePaths g i j k paths
  pub fans : (j : ℕ) → Has (later_members q k) j → (paths : List (List ℕ)) × IsFan g j (members_below q j) k paths
