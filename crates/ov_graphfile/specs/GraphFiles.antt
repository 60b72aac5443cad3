-- What a graph file says, the lines of a file that can't be read, and the first fault of a file that says no graph. Its
-- lines are separated, counted, skipped and split into words as those of a scenario file are. The form of the file is
-- chosen here.
use Rattle.std.specs.Prelude.{◌≡◌, ℕ, ◌-◌, ◌^◌, min, Bool, true, false, ⊤, List, [], ◌∷◌, ◌++◌, length, map, take}
use Rattle.std.specs.Prelude.{slice_get, codes, Option, Some, None, option_map, is_none}
use Rattle.std.specs.List.{filter}
use Rattle.ov_graph.specs.Faults.{JudgedWithin}
use Rattle.ov_graph.specs.Links.{LinkGraph, IsGraph, IsWithinLimit, most_of}
use Rattle.ov_graph.specs.declared.fault.GraphFault.{GraphFault}
use Rattle.ov_graph.specs.declared.fault.GraphFault.TheVariants as graph_fault
use Rattle.ov_graph.specs.declared.size_limit.SizeLimit.{SizeLimit}
use Rattle.ov_lines.specs.Lines.{kept_lines, words_of, row, long_bits, short_bits, one, two}
use Rattle.ov_graphfile.specs.declared.fault.GraphFileFault.{GraphFileFault}
use Rattle.ov_graphfile.specs.declared.fault.GraphFileFault.TheVariants as fault
use Rattle.ov_graphfile.specs.declared.fault.UnreadLine.{UnreadLine}
use Rattle.ov_graphfile.specs.declared.graph_line.GraphLine.{GraphLine}
use Rattle.ov_graphfile.specs.declared.graph_line.GraphLine.TheVariants.{Node, Link}
use Rattle.ov_graphfile.specs.declared.graph_line.LineKind.{LineKind}
use Rattle.ov_graphfile.specs.declared.graph_line.LineKind.TheVariants as kind
use Rattle.ov_graphfile.specs.declared.unread_lines_with_count.UnreadLines.{UnreadLines}

-- ---- lines

-- the link of a pair of ids, as it is written
abbrev pub link_of : ℕ × ℕ → GraphLine
link_of ids = Link ids.0 ids.1

-- what the words of a line say: `node N` or `link A B`
abbrev pub graph_line_of : List (List ℕ) → Option GraphLine
graph_line_of [] = None
graph_line_of (name ∷ rest) =
    row name
    ((codes "node", option_map Node (one short_bits rest)) ∷ (codes "link", option_map link_of (two rest)) ∷ [])
    None

-- what a line says, or None if it can't be read
abbrev pub graph_line : List ℕ → Option GraphLine
graph_line line = graph_line_of (words_of line)

-- the line of this number says what its bytes say
abbrev pub graph_line_at : ℕ × List ℕ → ℕ × Option GraphLine
graph_line_at line = (line.0, graph_line line.1)

-- the lines of a file that are not skipped, in order: the number of each, and what it says
unfoldable pub graph_lines : List ℕ → List (ℕ × Option GraphLine)
graph_lines bytes = map graph_line_at (kept_lines bytes)

-- ---- all lines together

-- the node that a line says, if it says one
abbrev pub node_said : Option GraphLine → List ℕ
node_said (Some (Node n)) = n ∷ []
node_said other = []

-- the link that a line says, if it says one
abbrev pub link_said : Option GraphLine → List (ℕ × ℕ)
link_said (Some (Link a b)) = (a, b) ∷ []
link_said other = []

-- the nodes that lines say, in order
unfoldable pub nodes_said : List (ℕ × Option GraphLine) → List ℕ
nodes_said [] = []
nodes_said (line ∷ more) = node_said line.1 ++ nodes_said more

-- the links that lines say, in order, each as it is written
unfoldable pub links_said : List (ℕ × Option GraphLine) → List (ℕ × ℕ)
links_said [] = []
links_said (line ∷ more) = link_said line.1 ++ links_said more

-- ---- numbers of lines

-- the numbers of the lines for which this holds, in order
unfoldable pub lines_where : (Option GraphLine → Bool) → List (ℕ × Option GraphLine) → List ℕ
lines_where holds lines = map (λ line. line.0) (filter (λ line. holds line.1) lines)

-- a line says a node, or a link
abbrev pub is_of_kind : LineKind → Option GraphLine → Bool
is_of_kind kind.Node (Some (Node n)) = true
is_of_kind kind.Link (Some (Link a b)) = true
is_of_kind kind other = false

-- the numbers of the lines of a file that can't be read, in order
abbrev pub unread_lines : List ℕ → List ℕ
unread_lines bytes = lines_where is_none (graph_lines bytes)

-- the most lines that are counted: as many as a number of 64 bits can say, and more than a file in memory has
abbrev pub most_counted : ℕ
most_counted = 2 ^ long_bits - 1

-- of the lines with all these numbers the first are kept, in order, this many at most, and all are counted
abbrev pub AreFirstOf : ℕ → List ℕ → UnreadLines → Type 0
AreFirstOf most all unread =
    (map (λ (line : UnreadLine). line.line) unread.first.items ≡ take most all)
    × (unread.count ≡ min (length all) most_counted)

-- the numbers of the lines of a file that say a node, in order
abbrev pub node_lines : List ℕ → List ℕ
node_lines bytes = lines_where (is_of_kind kind.Node) (graph_lines bytes)

-- the numbers of the lines of a file that say a link, in order
abbrev pub link_lines : List ℕ → List ℕ
link_lines bytes = lines_where (is_of_kind kind.Link) (graph_lines bytes)

-- the number of the line of the node or link at the place that a fault names, which counts from 0. If there are too
-- many nodes, it is that of the first node beyond the highest number of nodes
abbrev pub line_at_fault : List ℕ → GraphFault → Option ℕ
line_at_fault bytes (graph_fault.TooManyNodes count most) = slice_get (node_lines bytes) most
line_at_fault bytes (graph_fault.UnorderedNode at node before) = slice_get (node_lines bytes) at
line_at_fault bytes (graph_fault.BadLink at l flaw) = slice_get (link_lines bytes) at
line_at_fault bytes (graph_fault.UnorderedLink at l before) = slice_get (link_lines bytes) at
line_at_fault bytes graph_fault.OutOfMemory = None

-- ---- the file

-- the bytes of a file say this graph: each line can be read, and the nodes and the links that they say are the graph's
pub record IsGraphFile (bytes : List ℕ) (g : LinkGraph) : Type 0 where
  pub readable : unread_lines bytes ≡ []
  pub nodes : g.nodes ≡ nodes_said (graph_lines bytes)
  pub links : g.links ≡ links_said (graph_lines bytes)
  pub graph : IsGraph g
  pub within : IsWithinLimit g

-- the nodes and the links of a file are no graph of at most as many nodes as the limit says, and this is their first
-- fault, on this line. All lines can be read
pub record IsNoGraph (limit : SizeLimit) (bytes : List ℕ) (fault : GraphFault) (n : ℕ) : Type 0 where
  pub readable : unread_lines bytes ≡ []
  pub judged :
      JudgedWithin (most_of limit) (nodes_said (graph_lines bytes)) (links_said (graph_lines bytes)) (Some fault)
  pub line : line_at_fault bytes fault ≡ Some n

-- a file of these bytes, which may say a graph of as many nodes as the limit says, can be refused with this fault: that
-- of the first line that can't be read, or, if all can be read, the first fault of the nodes and the links; or out of
-- memory
abbrev pub IsGraphFileFault : SizeLimit → List ℕ → GraphFileFault → Type 0
IsGraphFileFault limit bytes (fault.Line unread) = slice_get (unread_lines bytes) 0 ≡ Some unread.line
IsGraphFileFault limit bytes (fault.Graph fault line) = IsNoGraph limit bytes fault line
IsGraphFileFault limit bytes fault.OutOfMemory = ⊤
