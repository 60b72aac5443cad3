-- Theorems about every graph and group.
use Rattle.std.specs.Prelude.{◌≡◌, ℕ, List}
use Rattle.ov_graph.specs.Links.{LinkGraph, IsGroup}
use Rattle.ov_graph.specs.Joined.{NoFewerSplit, FewestForGroup}
use Rattle.ov_graph.specs.Even.{PassesEven}

-- Even's test suffices: if it passes at k, every two surviving members are joined without any set of fewer than k nodes
-- (Even, SIAM J. Comput. 4, 1975)
abbrev pub EvenSuffices : Type 0
EvenSuffices = (g : LinkGraph) (q : List ℕ) (k : ℕ) → IsGroup g q → PassesEven g q k → NoFewerSplit g q k

-- a group has at most one number k as in `FewestForGroup`
abbrev pub OneNumber : Type 0
OneNumber = (g : LinkGraph) (q : List ℕ) (k l : ℕ) → FewestForGroup g q k → FewestForGroup g q l → k ≡ l
