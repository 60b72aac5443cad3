-- How the code keeps a graph: its nodes, and a row of bits for each. In the row of a node, bit q is set if the node is
-- linked to the node at place q.
use Rattle.std.specs.Prelude.{◌≡◌, ◌↔◌, ℕ, suc, ◌<◌, ◌≤◌, List, [], ◌∷◌, ◌++◌, map, length, drop, get_or, slice_index}
use Rattle.ov_ids.specs.Members.{Ascends}
use Rattle.ov_graph.specs.Links.{LinkGraph, Linked, most_nodes}
use Rattle.ov_graph.specs.Row.{HasBit, picked}

-- the row of the node at a place
abbrev pub row_at : List (List ℕ) → ℕ → List ℕ
row_at rows p = get_or rows p []

-- the links that rows represent: from each node of xs to the nodes after it whose bit is set in its row. The first of
-- xs is at place p
unfoldable pub links_read : ℕ → List ℕ → List (List ℕ) → List (ℕ × ℕ)
links_read p [] rows = []
links_read p (x ∷ xs) [] = []
links_read p (x ∷ xs) (row ∷ rows) = map (λ y. (x, y)) (picked row (suc p) xs) ++ links_read (suc p) xs rows

-- the graph that these nodes and rows represent
abbrev pub graph_kept : List ℕ → List (List ℕ) → LinkGraph
graph_kept nodes rows = record { nodes = nodes; links = links_read 0 nodes rows }

-- the row has bits only at places of nodes, and the nodes are within the limit
pub record IsRowOf (nodes : List ℕ) (row : List ℕ) : Type 0 where
  pub few : length nodes ≤ most_nodes
  pub within : (p : ℕ) → HasBit row p → p < length nodes

-- nodes and rows keep a graph. There is a row for each node, with bits only at places of nodes. A link is in the rows
-- of both its nodes, and no node is linked to itself
pub record IsKept (nodes : List ℕ) (rows : List (List ℕ)) : Type 0 where
  pub few : length nodes ≤ most_nodes
  pub ascend : Ascends nodes
  pub each : length rows ≡ length nodes
  pub within : (p q : ℕ) → HasBit (row_at rows p) q → q < length nodes
  pub both : (p q : ℕ) → HasBit (row_at rows p) q → HasBit (row_at rows q) p
  pub apart : (p : ℕ) → ¬ HasBit (row_at rows p) p

-- there is a row for each node, with the bits of these links and no others
pub record IsMarked (nodes : List ℕ) (links : List (ℕ × ℕ)) (rows : List (List ℕ)) : Type 0 where
  pub each : length rows ≡ length nodes
  pub bits : (p q : ℕ) → HasBit (row_at rows p) q
      ↔ ((p < length nodes) × (q < length nodes)
      × Linked (record { nodes = nodes; links = links }) (slice_index nodes p) (slice_index nodes q))

-- the links from the node at place p to nodes from place q on, and then the links from the nodes after p
unfoldable pub links_from : List ℕ → List (List ℕ) → ℕ → ℕ → List (ℕ × ℕ)
links_from nodes rows p q =
    map (λ y. (slice_index nodes p, y)) (picked (row_at rows p) q (drop q nodes))
    ++ links_read (suc p) (drop (suc p) nodes) (drop (suc p) rows)
