-- A theorem about the names that a graph file keeps.
use Rattle.std.specs.Prelude.{◌≡◌, ℕ, List}
use Rattle.ov_graph.specs.Links.{LinkGraph}
use Rattle.ov_graphfile.specs.GraphFiles.{IsGraphFile}
use Rattle.ov_graphfile.specs.NameLines.{NameSaid}

-- a file that says a graph gives a node one name at most
abbrev pub OneName : Type 0
OneName =
    (bytes : List ℕ) (g : LinkGraph) (n : ℕ) (s t : List ℕ) → IsGraphFile bytes g → NameSaid bytes n s
    → NameSaid bytes n t → s ≡ t
