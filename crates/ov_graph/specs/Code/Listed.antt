-- How the code keeps a graph of more than 1,024 nodes: its nodes, its links, and for each node the places of its
-- neighbours.
use Rattle.std.specs.Prelude.{◌≡◌, ◌↔◌, ℕ, ◌<◌, ◌≤◌, List, [], length, map, get_or, slice_index}
use Rattle.ov_ids.specs.Members.{Has, Ascends}
use Rattle.ov_graph.specs.Links.{IsGraph, Linked, most_of_any_graph}

-- the list of the node at a place
abbrev pub listed_at : List (List ℕ) → ℕ → List ℕ
listed_at lists p = get_or lists p []

-- there is a list for each node: the places of the nodes that these links join it to, ascending
pub record AreListed (nodes : List ℕ) (links : List (ℕ × ℕ)) (lists : List (List ℕ)) : Type 0 where
  pub each : length lists ≡ length nodes
  pub ascend : (p : ℕ) → Ascends (listed_at lists p)
  pub places : (p q : ℕ) → Has (listed_at lists p) q
      ↔ ((p < length nodes) × (q < length nodes)
      × Linked (record { nodes = nodes; links = links }) (slice_index nodes p) (slice_index nodes q))

-- nodes, links and lists keep a graph
pub record IsListed (nodes : List ℕ) (links : List (ℕ × ℕ)) (lists : List (List ℕ)) : Type 0 where
  pub few : length nodes ≤ most_of_any_graph
  pub graph : IsGraph (record { nodes = nodes; links = links })
  pub listed : AreListed nodes links lists

-- these are the places of xs from `after` on
pub record AreFrom (xs : List ℕ) (after : ℕ) (rest : List ℕ) : Type 0 where
  pub ascend : Ascends rest
  pub each : (q : ℕ) → Has rest q ↔ ((after ≤ q) × Has xs q)

-- p is the first of these places for which P holds
pub record IsFirstOf (P : ℕ → Type 0) (places : List ℕ) (p : ℕ) : Type 0 where
  pub among : Has places p
  pub holds : P p
  pub first : (q : ℕ) → Has places q → q < p → ¬ P q

-- the nodes at these places
abbrev pub nodes_at : List ℕ → List ℕ → List ℕ
nodes_at nodes places = map (λ p. slice_index nodes p) places
