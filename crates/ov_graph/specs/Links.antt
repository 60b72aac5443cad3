-- Simple undirected graphs: a finite set of nodes, which are ids, and a set of links between two different nodes.
use Rattle.std.specs.Prelude.{◌≡◌, ◌≢◌, ◌↔◌, ◌⊎◌, ℕ, ◌<◌, ◌≤◌, List, length}
use Rattle.ov_ids.specs.Members.{Has, Ordered, Ascends}
use Rattle.ov_graph.specs.declared.size_limit.SizeLimit.{SizeLimit}
use Rattle.ov_graph.specs.declared.size_limit.SizeLimit.TheVariants.{Usual, Large}

-- the nodes, and the links as pairs of nodes
pub record LinkGraph : Type 0 where
  pub nodes : List ℕ
  pub links : List (ℕ × ℕ)

-- the order of links: by the first node, and then by the second
abbrev pub Precedes : ℕ × ℕ → ℕ × ℕ → Type 0
Precedes l m = (l.0 < m.0) ⊎ ((l.0 ≡ m.0) × (l.1 < m.1))

-- l joins two nodes, the lower id first
abbrev pub IsLink : List ℕ → ℕ × ℕ → Type 0
IsLink nodes l = (l.0 < l.1) × Has nodes l.0 × Has nodes l.1

-- nodes and links are in ascending order, each once, and each link joins two nodes. So two graphs with the same nodes
-- and links are equal values
pub record IsGraph (g : LinkGraph) : Type 0 where
  pub nodes_ascend : Ascends g.nodes
  pub links_ascend : Ordered Precedes g.links
  pub joins : (l : ℕ × ℕ) → Has g.links l → IsLink g.nodes l

-- the graph has a node
abbrev pub HasNode : LinkGraph → Type 0
HasNode g = 0 < length g.nodes

-- the most nodes that a graph may have which the code keeps as rows of bits. The theorems have no such limit
abbrev pub most_nodes : ℕ
most_nodes = 1024

-- the most nodes that any graph may have in the code. The theorems have no such limit
abbrev pub most_of_any_graph : ℕ
most_of_any_graph = 32768

-- how many nodes a graph may have within a limit
abbrev pub most_of : SizeLimit → ℕ
most_of Usual = most_nodes
most_of Large = most_of_any_graph

-- the graph has at most `most_nodes` nodes
abbrev pub IsSmall : LinkGraph → Type 0
IsSmall g = length g.nodes ≤ most_nodes

-- the graph has at most `most_of_any_graph` nodes
abbrev pub IsWithinLimit : LinkGraph → Type 0
IsWithinLimit g = length g.nodes ≤ most_of_any_graph

-- a and b are linked: a link joins them, in either order
unfoldable pub Linked : LinkGraph → ℕ → ℕ → Type 0
Linked g a b = Has g.links (a, b) ⊎ Has g.links (b, a)

-- every two different nodes of xs are linked
abbrev pub AreAllLinked : LinkGraph → List ℕ → Type 0
AreAllLinked g xs = (a b : ℕ) → Has xs a → Has xs b → a ≢ b → Linked g a b

-- ns are the neighbours of a: the nodes that it is linked to, ascending
pub record AreNeighbours (g : LinkGraph) (a : ℕ) (ns : List ℕ) : Type 0 where
  pub ascend : Ascends ns
  pub each : (b : ℕ) → Has ns b ↔ Linked g a b

-- a group: one or more nodes, in ascending order. Its members are those that should stay joined when nodes crash. Any
-- node may crash
pub record IsGroup (g : LinkGraph) (q : List ℕ) : Type 0 where
  pub some_member : 0 < length q
  pub ascends : Ascends q
  pub nodes : (x : ℕ) → Has q x → Has g.nodes x
