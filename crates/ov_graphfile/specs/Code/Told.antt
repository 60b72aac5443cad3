-- The names that the lines of a file give nodes, in the order of the lines.
use Rattle.std.specs.Prelude.{ℕ, nat_eq, List, [], ◌∷◌, ◌++◌, map, Option, Some, None, if◌then◌else◌}
use Rattle.ov_graphfile.specs.GraphFiles.{graph_line, node_said}
use Rattle.ov_graphfile.specs.NameLines.{comment_said}

-- the name of n, if this is said of n
abbrev pub name_for : ℕ → Option (ℕ × List ℕ) → Option (List ℕ)
name_for n None = None
name_for n (Some said) = if nat_eq said.0 n then Some said.1 else None

-- the name that a line gives the node n of the line behind it, if it is a comment that does
abbrev pub name_by : List ℕ → ℕ → Option (List ℕ)
name_by before n = name_for n (comment_said before)

-- of these lines behind the line `before`, those that say a node: the name of each, if the line before it gives one
abbrev pub names_in : List ℕ → List (List ℕ) → List (Option (List ℕ))
names_in before [] = []
names_in before (line ∷ more) = map (name_by before) (node_said (graph_line line)) ++ names_in line more
