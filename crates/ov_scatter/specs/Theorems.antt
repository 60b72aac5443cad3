-- A theorem about every graph and group.
use Rattle.std.specs.Prelude.{◌↔◌, ℕ, List}
use Rattle.ov_graph.specs.Links.{LinkGraph, IsGroup}
use Rattle.ov_graph.specs.Joined.{NoFewerSplit}
use Rattle.ov_scatter.specs.Renaming.{IsRenamed}

-- how many nodes split a group does not depend on ids: no fewer than k nodes split the renamed group if and only if no
-- fewer split the group
abbrev pub RenamingKeepsNumber : Type 0
RenamingKeepsNumber = (g : LinkGraph) (q : List ℕ) (h : LinkGraph) (r : List ℕ) → IsGroup g q → IsRenamed g q h r
    → (k : ℕ) → NoFewerSplit h r k ↔ NoFewerSplit g q k
