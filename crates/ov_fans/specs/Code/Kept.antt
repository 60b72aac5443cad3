-- How the code keeps members and nets: by place, in rows of bits.
use Rattle.std.specs.Prelude.{◌≡◌, ◌≢◌, ◌↔◌, ℕ, ◌<◌, ◌≤◌, List, map, length, IfSome}
use Rattle.ov_ids.specs.Members.{Has, Ascends}
use Rattle.ov_graph.specs.Links.{LinkGraph, IsGraph, IsWithinLimit}
use Rattle.ov_graph.specs.Paths.{node_at}
use Rattle.ov_graph.specs.Row.{HasBit}
use Rattle.ov_split.specs.SplitNetState.{SplitNetState}
use Rattle.ov_split.specs.Places.{net_at}
use Rattle.ov_fans.specs.Group.{SettlerState}
use Rattle.ov_fans.specs.declared.piece_net.Aim.{Aim}

-- the group of the nodes at these places
abbrev pub group_at : LinkGraph → List ℕ → SettlerState
group_at g places = record { graph = g; members = map (node_at g) places }

-- the row has bits only at places of these nodes
abbrev pub AreBitsOfNodes : List ℕ → List ℕ → Type 0
AreBitsOfNodes nodes row = (p : ℕ) → HasBit row p → p < length nodes

-- these are one or more places of nodes, ascending, and the row has their bits
pub record AreMemberPlaces (g : LinkGraph) (places row : List ℕ) : Type 0 where
  pub graph : IsGraph g
  pub within : IsWithinLimit g
  pub some_place : 0 < length places
  pub ascend : Ascends places
  pub below : (p : ℕ) → Has places p → p < length g.nodes
  pub bits : (p : ℕ) → HasBit row p ↔ Has places p

-- n is the net of the aim in g. Its places are those of nodes, and the source is neither avoided nor a target
pub record IsAimFor {W : ℕ} (g : LinkGraph) (n : SplitNetState) (aim : Aim W) : Type 0 where
  pub net : net_at g aim.avoided aim.source aim.targets ≡ n
  pub source : aim.source < length g.nodes
  pub avoided : IfSome aim.avoided (λ p. (p < length g.nodes) × (p ≢ aim.source))
  pub targets : (p : ℕ) → HasBit aim.targets p → (p < length g.nodes) × (p ≢ aim.source)

-- x is the lowest of xs that is not in s
pub record IsLowestOutside (s xs : List ℕ) (x : ℕ) : Type 0 where
  pub member : Has xs x
  pub outside : ¬ Has s x
  pub lowest : (t : ℕ) → Has xs t → ¬ Has s t → x ≤ t
