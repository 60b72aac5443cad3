-- What a part of a text means, and the places that are marked for the parts so far.
use Rattle.std.specs.Prelude.{◌≡◌, ℕ, ◌<◌, ◌↔◌, List, length, slice_index_or, Some, None}
use Rattle.ov_graph.specs.Paths.{node_at}
use Rattle.ov_graph.specs.Row.{HasBit}
use Rattle.ov_graphfile.specs.NamesState.{NamesState}
use Rattle.ov_graphfile.specs.Groups.{Means, MeansAt, IsNobodys, IsShared, SpellsId}
use Rattle.ov_graphfile.specs.declared.group_from_names_or_ids.Owner.{Owner}
use Rattle.ov_graphfile.specs.declared.group_from_names_or_ids.Owner.TheVariants.{One, Nobody, Several}

-- the part means the node at this place, or nobody, or it is the name of two nodes
abbrev pub IsOwner : NamesState → List ℕ → Owner → Type 0
IsOwner names part (One p) = (p < length names.graph.nodes) × Means names part (node_at names.graph p)
IsOwner names part Nobody = IsNobodys names part
IsOwner names part Several = IsShared names part

-- the node at place p has a name that spells an id
abbrev pub IsNumeralAt : NamesState → ℕ → Type 0
IsNumeralAt names p =
    (n : ℕ) × (name : List ℕ) × (slice_index_or names.told p None ≡ Some name) × SpellsId name n

-- the row has the places of the nodes that the first `done` parts mean, each of which means a node of its own
pub record AreMarked (names : NamesState) (parts : List (List ℕ)) (row : List ℕ) (done : ℕ) : Type 0 where
  pub bits : (p : ℕ) → HasBit row p ↔ ((p < length names.graph.nodes)
      × ((i : ℕ) × (i < done) × MeansAt names parts i (node_at names.graph p)))
  pub each : (i : ℕ) → i < done → (n : ℕ) × MeansAt names parts i n
  pub once : (i j n : ℕ) → i < done → j < done → MeansAt names parts i n → MeansAt names parts j n → i ≡ j
