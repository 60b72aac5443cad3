-- The text of a graph file that says a graph. The order of its lines is chosen here.
use Rattle.std.specs.Prelude.{ℕ, List, [], ◌∷◌, ◌++◌, codes, decimal}
use Rattle.std.specs.List.{flat_map, zip}
use Rattle.ov_ids.specs.Members.{Has}
use Rattle.ov_graph.specs.Links.{LinkGraph}

-- the line of a node, with its line feed
abbrev pub node_line : ℕ → List ℕ
node_line n = codes "node " ++ (decimal n ++ 10 ∷ [])

-- the line of a link, with its line feed
abbrev pub link_line : ℕ × ℕ → List ℕ
link_line l = codes "link " ++ (decimal l.0 ++ 32 ∷ (decimal l.1 ++ 10 ∷ []))

-- a line for each node, ascending, and then a line for each link, ascending
abbrev pub graph_text : LinkGraph → List ℕ
graph_text g = flat_map node_line g.nodes ++ flat_map link_line g.links

-- a name stands on one line: it has no line feed and no carriage return
abbrev pub IsOnOneLine : List ℕ → Type 0
IsOnOneLine name = ¬ Has name 10 × ¬ Has name 13

-- a comment that says a node and its name, and the line of the node behind it
abbrev pub named_node_line : ℕ × List ℕ → List ℕ
named_node_line node = codes "# " ++ (decimal node.0 ++ 32 ∷ (node.1 ++ 10 ∷ node_line node.0))

-- the same with the names of the nodes, which stand in the order of the nodes: each in a comment before the line of its
-- node
abbrev pub named_graph_text : LinkGraph → List (List ℕ) → List ℕ
named_graph_text g names = flat_map named_node_line (zip g.nodes names) ++ flat_map link_line g.links
