-- What a network withstands.
use Rattle.std.specs.Prelude.{ℕ, ◌≤◌, List, length}
use Rattle.ov_graph.specs.Links.{LinkGraph}
use Rattle.ov_graph.specs.Joined.{Joined, Survives}

-- whichever nodes fail, at most so many of them, every two members of q that are left are joined
abbrev pub Withstands : LinkGraph → List ℕ → ℕ → Type 0
Withstands g q failures =
    (failed : List ℕ) → length failed ≤ failures → (a b : ℕ) → Survives q failed a → Survives q failed b
    → Joined g failed a b
