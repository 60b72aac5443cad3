-- Nets by place: each node is named by its place in the order of ids, counted from 0.
use Rattle.std.specs.Prelude.{ℕ, zero, suc, List, [], ◌∷◌, ◌++◌, map, length, Option, Some, None}
use Rattle.ov_ids.specs.Sets.{count_below}
use Rattle.ov_graph.specs.Links.{LinkGraph}
use Rattle.ov_graph.specs.Paths.{node_at}
use Rattle.ov_graph.specs.Row.{picked}
use Rattle.ov_split.specs.SplitNetState.{SplitNetState}

-- the places below n
unfoldable pub places : ℕ → List ℕ
places zero = []
places (suc n) = places n ++ n ∷ []

-- the place of a node: how many nodes have lower ids
abbrev pub place_in : LinkGraph → ℕ → ℕ
place_in g x = count_below x g.nodes

-- a link, by the places of its nodes
abbrev pub link_by_place : LinkGraph → ℕ × ℕ → ℕ × ℕ
link_by_place g l = (place_in g l.0, place_in g l.1)

-- the same graph, by place
unfoldable pub graph_by_place : LinkGraph → LinkGraph
graph_by_place g = record {
  nodes = places (length g.nodes);
  links = map (link_by_place g) g.links;
}

-- the same net, by place
unfoldable pub net_by_place : SplitNetState → SplitNetState
net_by_place n = record {
  graph = graph_by_place n.graph;
  avoided = map (place_in n.graph) n.avoided;
  source = place_in n.graph n.source;
  targets = map (place_in n.graph) n.targets;
}

-- the node at a place, or none if no place is given
abbrev pub node_if : LinkGraph → Option ℕ → List ℕ
node_if g None = []
node_if g (Some p) = node_at g p ∷ []

-- the net of these places: one avoided place at most, the source, and the places of the targets as a row of bits
abbrev pub net_at : LinkGraph → Option ℕ → ℕ → List ℕ → SplitNetState
net_at g avoided source targets = record {
  graph = g;
  avoided = node_if g avoided;
  source = node_at g source;
  targets = picked targets 0 g.nodes;
}
