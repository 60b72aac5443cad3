-- The search for paths of a net, one after another: its state and its results (Menger, Fund. Math. 10, 1927).
use Rattle.std.specs.Prelude.{◌≡◌, ◌↔◌, ℕ, ◌+◌, ◌<◌, List, [], ◌∷◌, ◌++◌, length, Option, Some, None}
use Rattle.ov_ids.specs.Members.{Has}
use Rattle.ov_graph.specs.Links.{LinkGraph}
use Rattle.ov_graph.specs.Row.{HasBit}
use Rattle.ov_graph.specs.Paths.{node_at}
use Rattle.ov_split.specs.SplitNetState.{SplitNetState, IsFanOf, IsNearestCut, IsSideOf}
use Rattle.ov_flow.specs.declared.search_result.CutRows.{CutRows}
use Rattle.ov_flow.specs.declared.search_result.Augmentation.{Augmentation}
use Rattle.ov_flow.specs.declared.search_result.Augmentation.TheVariants.{Grew, Stuck}

-- the value of a `Flow` in contracts: the net, and how many paths of a fan are held
pub record FlowState : Type 0 where
  pub net : SplitNetState
  pub held : ℕ

-- no fan has more than k paths: the nearest minimum cut has k nodes. `side` are the nodes that are reached without it
pub record IsFull (n : SplitNetState) (k : ℕ) (cut side : List ℕ) : Type 0 where
  pub nearest : IsNearestCut n cut
  pub size : length cut ≡ k
  pub side_of : IsSideOf n cut side
  pub no_more : (l : ℕ) → k < l → ¬ ((paths : List (List ℕ)) × IsFanOf n l paths)

-- the row has the bits of the places of the nodes in s, and no others
abbrev pub AreBitsOf : LinkGraph → List ℕ → List ℕ → Type 0
AreBitsOf g row s = (p : ℕ) → HasBit row p ↔ ((p < length g.nodes) × Has s (node_at g p))

-- no fan has more than k paths, and the rows have the bits of the nearest minimum cut and of its side
pub record IsFullBy {W : ℕ} (n : SplitNetState) (k : ℕ) (s : CutRows W) : Type 0 where
  pub cut : List ℕ
  pub side : List ℕ
  pub full : IsFull n k cut side
  pub cut_row : AreBitsOf n.graph s.cut cut
  pub side_row : AreBitsOf n.graph s.side side

-- the result of a search for one more path: one more is held, or there is none and nothing has changed
abbrev pub IsAugmentation : {W : ℕ} → FlowState → FlowState → Augmentation W → Type 0
IsAugmentation old new Grew = new ≡ record old { held = old.held + 1 }
IsAugmentation old new (Stuck s) = (new ≡ old) × IsFullBy old.net old.held s

-- each number on each path is the place of a node, counted from 0
abbrev pub ArePlaces : LinkGraph → List (List ℕ) → Type 0
ArePlaces g paths = (path : List ℕ) → Has paths path → (p : ℕ) → Has path p → p < length g.nodes

-- the path, and then the node `last` if one is given
abbrev pub ended_by : Option ℕ → List ℕ → List ℕ
ended_by None path = path
ended_by (Some last) path = path ++ last ∷ []

-- how many places all paths have together: the sum of their lengths
abbrev pub places_on : List (List ℕ) → ℕ
places_on [] = 0
places_on (path ∷ paths) = length path + places_on paths
